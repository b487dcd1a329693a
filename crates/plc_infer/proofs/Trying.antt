-- Looks at steps condition by condition: what is kept, why a condition that fails on the way fails under every
-- pre-typing, and what the environments are at the beginning and at the end.
use Rattle.std.proofs.Common.{◌≡◌, ℕ, zero, suc, ◌<◌, Bool, true, false, List, [], ◌∷◌, length, get_or, replicate, inl}
use Rattle.std.proofs.Common.{inr, refl, ap, subst, ◌∙◌, arith}
use Rattle.std.specs.Prelude.{◌⊎◌, Contains, All}
use Rattle.plc_auto.specs.declared.observer.Observer.{Observer}
use Rattle.plc_lang.specs.Skeleton.{Skeleton}
use Rattle.plc_type.specs.declared.env.Env.{Env}
use Rattle.plc_type.proofs.Ordered.{ordered}
use Rattle.plc_xfer.specs.Typings.{HasTyping, IsTyping, IsStrongest}
use Rattle.plc_xfer.proofs.Order.{kept}
use Rattle.plc_infer.specs.declared.resuming.Replaced.{Replaced}
use Rattle.plc_infer.specs.Iteration as graph
use Rattle.plc_infer.specs.Iteration.{Graph, Laws, env_at, Shaped, Rising}
use Rattle.plc_infer.specs.Programs.{IsProgram}
use Rattle.plc_infer.specs.Starts.{starts_of}
use Rattle.plc_infer.specs.Graphs.{graph_of}
use Rattle.plc_infer.specs.WorkLists.{Among, Settled, UnderWay, Gains}
use Rattle.plc_infer.specs.Trials.{MeetsAll, FailsOne, LooksAt, HasNoTyping, IsNoted, put_back}
use Rattle.plc_infer.specs.Resuming.{IsBegun, StepIsTyped, IsReached, IsResumed}
use Rattle.plc_infer.proofs.Listed.{begun_with, looked, gains, settled, ended}
use Rattle.plc_infer.proofs.Skeletal.{starts_are, begun_rising, typed_settled, typing_into_graph, strongest_is}
use Rattle.plc_infer.proofs.Skeletal.{typing_is}
use Rattle.plc_infer.proofs.Programs.{program_laws}

both : (b : Bool) → b ≡ true → b ≡ false → ⊥
both b x y = cc

-- an element of a list is among it
among_of : (xs : List ℕ) (x : ℕ) → Contains xs x → Among xs x
among_of xs x c = go xs c.0 c.1 c.2
  where
    go : (ys : List ℕ) (i : ℕ) → i < length ys → get_or ys i x ≡ x → Among ys x
    go [] i small e = absurd (omega arith)
    go (y ∷ ys) zero small e = inl e
    go (y ∷ ys) (suc i) small e = inr (go ys i (omega arith) e)

among_all : (n : ℕ) (xs : List ℕ) → All (λ (k : ℕ). k < n) xs → (k : ℕ) → Among xs k → k < n
among_all n [] h k a = absurd a
among_all n (x ∷ xs) h k (inl e) = let first : x < n = h 0 0 (omega arith) in omega arith
among_all n (x ∷ xs) h k (inr a) = among_all n xs (λ i d small. h (suc i) d (omega arith)) k a

module _ {E : Type 0} (g : Graph E) (laws : Laws g) where
  -- environments only rise, so that a condition that fails on the way fails under every pre-typing
  pub none_meets : (starts envs : List E) (k : ℕ) → k < g.steps → Rising g starts envs
      → FailsOne g k (env_at g envs (g.from k)) → HasNoTyping g starts
  none_meets starts envs k small r f = λ others t.
      let from = laws.from_in k small in
      let here = laws.less k f.0 _ _ small (r.shaped.fitting (g.from k) from)
      (t.pretyping.shaped.fitting (g.from k) from) (r.below_all others t.pretyping (g.from k) from)
      (t.holding k f.0 small f.1) in
      both _ here f.2

  -- one step less to be looked at
  pub tried : (starts envs new : List E) (queue queue' : List ℕ) (marks marks' : List Bool) (k : ℕ) (todo : List ℕ)
      → Shaped g starts → UnderWay g (MeetsAll g) starts envs queue marks (k ∷ todo)
      → LooksAt g k envs new queue queue' marks marks' true
      → UnderWay g (MeetsAll g) starts new queue' marks' todo × Gains g envs new queue queue'
  tried starts envs new queue queue' marks marks' k todo first u h = (
    looked g laws (MeetsAll g) starts envs new queue queue' marks marks' k todo first u h.1 h.0,
    gains g laws envs new queue queue' marks marks' k (u.steps k (inl refl)) u.rising.shaped h.1,
  )

module _ (o : Observer) (s : Skeleton) (well : IsProgram s) where
  abbrev g : Graph Env
  g = graph_of o s

  abbrev starts : List Env
  starts = starts_of o s

  -- the steps that were changed are to be looked at
  pub begun_under_way : (envs : List Env) (changed : List ℕ) → IsBegun o s envs changed
      → All (λ (k : ℕ). k < length s.passages) changed → (queue : List ℕ) (marks : List Bool) → queue ≡ []
      → marks ≡ replicate (length s.locals) false
      → UnderWay g (MeetsAll g) starts envs queue marks changed
  begun_under_way envs changed b known queue marks q m =
      begun_with g (program_laws o s well) (MeetsAll g) starts envs queue marks changed
      (begun_rising ordered kept o s starts (starts_are ordered kept o s well) well envs changed b) q m
      (among_all (length s.passages) changed known) rest
    where
      step : (k : ℕ) → k < length s.passages → Contains changed k ⊎ StepIsTyped o s envs k
          → Among changed k ⊎ Settled g (MeetsAll g) envs k
      step k small (inl c) = inl (among_of changed k c)
      step k small (inr t) =
          inr (typed_settled ordered kept o s starts (starts_are ordered kept o s well) envs k small t)

      rest : (k : ℕ) → k < length s.passages → Among changed k ⊎ Settled g (MeetsAll g) envs k
      rest k small = step k small (b.typed k small)

  -- no typing of the rules
  untyped : HasNoTyping g starts → HasTyping o s → ⊥
  untyped h t = h t.0 (typing_into_graph ordered kept o s starts (starts_are ordered kept o s well) well t.0 t.1)

  -- where a condition fails, what was replaced is put back
  pub given_up : (old failed new : List Env) (before replaced : List Replaced) → HasNoTyping g starts
      → IsNoted old failed before replaced → before ≡ [] → new ≡ put_back replaced failed → IsResumed o s old new false
  given_up old failed new before replaced none noted first back =
      (untyped none, back ∙ noted.back ∙ ap (λ (rs : List Replaced). put_back rs old) first)

  -- nothing is left to be looked at
  module _ (envs : List Env) (queue : List ℕ) (marks : List Bool)
      (under_way : UnderWay g (MeetsAll g) starts envs queue marks []) (none : queue ≡ []) where
    u : UnderWay g (MeetsAll g) starts envs [] marks []
    u = subst (λ (xs : List ℕ). UnderWay g (MeetsAll g) starts envs xs marks []) none under_way

    least : graph.IsStrongest g starts envs
    least = ended g (program_laws o s well) (MeetsAll g) starts envs marks u

    strongest : IsStrongest o s envs
    strongest = strongest_is ordered kept o s starts (starts_are ordered kept o s well) well envs least

    typed : IsTyping o s envs
    typed = typing_is ordered kept o s starts (starts_are ordered kept o s well) well envs least
        (λ k small. (settled g (program_laws o s well) (MeetsAll g) starts envs marks u k small).1)

    pub reached : IsReached o s envs
    reached = record { typing = typed; strongest = strongest }
