use Rattle.std.proofs.Common.{arith, Ok, ap}
use Rattle.plc_solve.specs.Measure.{base_of}
use Rattle.plc_solve.proofs.Turns.{cut_is_sound, closed_turn, deeper_turn, complete_turn}
use Rattle.plc_solve.proofs.search.search.Goals as goal

pub take_child-requires-clause-sound : goal.take_child-requires-clause-sound
take_child-requires-clause-sound c =
    cut_is_sound c.args.subject.now.set.now c.search.place c.go_up.new.place c.in-Some.top c.search.frames.items c.pop.new.self.items
    c.in-Some.ensures.items c.search.invariant.stands c.go_up.ensures

pub search-preserved-in-Continue-branch-3 : goal.search-preserved-in-Continue-branch-3
search-preserved-in-Continue-branch-3 c =
    let turn = closed_turn c.args.subject.now.set.now c.search.place c.go_up.new.place c.in-Some.top c.search.frames.items c.pop.new.self.items
    c.in-Some.ensures.items c.search.invariant.stands c.go_up.ensures c.take_child.new.place c.take_child.new.top c.in_ok-take_child.ensures.goes_on
    c.push.new.self.items c.in_ok-push-in-Closed.ensures.items (rw c.in-Closed.is at c.in_ok-take_child.ensures.gives) in
    record { stands = turn.0; nonempty = omega (arith, c.in_ok-push-in-Closed.ensures.len); seen = omega (arith, c.take_child.auto.seen, c.search.invariant.seen); last = omega (arith, c.take_child.auto.last, c.search.invariant.last) }

pub search-smaller-in-Continue-branch-3 : goal.search-smaller-in-Continue-branch-3
search-smaller-in-Continue-branch-3 c =
    (closed_turn c.args.subject.now.set.now c.search.place c.go_up.new.place c.in-Some.top c.search.frames.items c.pop.new.self.items
    c.in-Some.ensures.items c.search.invariant.stands c.go_up.ensures c.take_child.new.place c.take_child.new.top c.in_ok-take_child.ensures.goes_on
    c.push.new.self.items c.in_ok-push-in-Closed.ensures.items (rw c.in-Closed.is at c.in_ok-take_child.ensures.gives)).1

pub search-preserved-in-Continue-branch-5 : goal.search-preserved-in-Continue-branch-5
search-preserved-in-Continue-branch-5 c =
    let turn = deeper_turn c.args.subject.now.set.now c.search.place c.go_up.new.place c.in-Some.top c.search.frames.items c.pop.new.self.items
    c.in-Some.ensures.items c.search.invariant.stands c.go_up.ensures c.take_child.new.place c.take_child.new.top c.in_ok-take_child.ensures.goes_on
    c.in-Deeper.child c.push-in-Deeper.new.self.items c.push-in-Deeper-2.new.self.items c.in_ok-push-in-Deeper.ensures.items
    c.in_ok-push-in-Deeper-2.ensures.items (rw c.in-Deeper.is at c.in_ok-take_child.ensures.gives) in
    record { stands = turn.0; nonempty = omega (arith, c.in_ok-push-in-Deeper-2.ensures.len); seen = omega (arith, c.take_child.auto.seen, c.search.invariant.seen); last = omega (arith, c.take_child.auto.last, c.search.invariant.last) }

pub search-smaller-in-Continue-branch-5 : goal.search-smaller-in-Continue-branch-5
search-smaller-in-Continue-branch-5 c =
    (deeper_turn c.args.subject.now.set.now c.search.place c.go_up.new.place c.in-Some.top c.search.frames.items c.pop.new.self.items
    c.in-Some.ensures.items c.search.invariant.stands c.go_up.ensures c.take_child.new.place c.take_child.new.top c.in_ok-take_child.ensures.goes_on
    c.in-Deeper.child c.push-in-Deeper.new.self.items c.push-in-Deeper-2.new.self.items c.in_ok-push-in-Deeper.ensures.items
    c.in_ok-push-in-Deeper-2.ensures.items (rw c.in-Deeper.is at c.in_ok-take_child.ensures.gives)).1

pub hand_up-requires-clause-stands : goal.hand_up-requires-clause-stands
hand_up-requires-clause-stands c =
    (complete_turn c.args.subject.now.set.now c.search.place c.go_up.new.place c.in-Some.top c.search.frames.items c.pop.new.self.items
    c.in-Some.ensures.items c.search.invariant.stands c.go_up.ensures c.take_child.new.place c.take_child.new.top c.in_ok-take_child.ensures.goes_on
    (rw c.in-Complete.is at c.in_ok-take_child.ensures.gives)).0

pub hand_up-requires-clause-closes : goal.hand_up-requires-clause-closes
hand_up-requires-clause-closes c =
    (complete_turn c.args.subject.now.set.now c.search.place c.go_up.new.place c.in-Some.top c.search.frames.items c.pop.new.self.items
    c.in-Some.ensures.items c.search.invariant.stands c.go_up.ensures c.take_child.new.place c.take_child.new.top c.in_ok-take_child.ensures.goes_on
    (rw c.in-Complete.is at c.in_ok-take_child.ensures.gives)).1

pub search-smaller : goal.search-smaller
search-smaller c =
    let turn = complete_turn c.args.subject.now.set.now c.search.place c.go_up.new.place c.in-Some.top c.search.frames.items c.pop.new.self.items
    c.in-Some.ensures.items c.search.invariant.stands c.go_up.ensures c.take_child.new.place c.take_child.new.top c.in_ok-take_child.ensures.goes_on
    (rw c.in-Complete.is at c.in_ok-take_child.ensures.gives) in
    let fewer = turn.2 in
    let less = c.in_ok-nodes-in-Complete.ensures.less (ap Ok c.in_default-2.is) (base_of c.args.subject.now.set.now) in
    omega (arith, fewer, less)
