-- What an event leaves where it stands: a number that is no location, and another address for a thread that isn't its own.
use Rattle.std.proofs.Common.{◌≡◌, ℕ, ◌≤◌, Bool, true, false, not, ◌&&◌, ◌==◌, if◌then◌else◌, List, [], ◌∷◌, Some, refl, ap, ◌∙◌, arith}
use Rattle.std.specs.Prelude.{nat_lt}
use Rattle.std.specs.List.{list_all}
use Rattle.std.proofs.lemmas.Bool.{and_parts, and_from, not-true, ltb-true, ne_eqb}
use Rattle.plc_auto.specs.declared.event.EvKind.{EvKind}
use Rattle.plc_auto.specs.declared.observer.Observer.{Observer}
use Rattle.plc_auto.specs.declared.observer.Observer.TheVariants.{Plain, Hazard, Epoch}
use Rattle.plc_auto.specs.Table.{Label, Edge, thread_fits, address_fits, edge_fits, reached, bears, along, edges_of, count_of, step}

no_edge : (borne : Label → Bool) (by_own on_this : Bool) (l : ℕ) (es : List Edge) → list_all (λ e. not (edge_fits borne by_own on_this l e)) es ≡ true → along borne by_own on_this l es ≡ Some l
no_edge borne by_own on_this l [] all = refl
no_edge borne by_own on_this l (e ∷ es) all =
    let parts = and_parts _ _ all in
    ap (λ b. if b then reached e.target else along borne by_own on_this l es) (not-true (edge_fits borne by_own on_this l e) parts.0) ∙ no_edge borne by_own on_this l es parts.1

each_so : (p q : Edge → Bool) → ((e : Edge) → p e ≡ true → q e ≡ true) → (es : List Edge) → list_all p es ≡ true → list_all q es ≡ true
each_so p q so [] all = refl
each_so p q so (e ∷ es) all = let parts = and_parts _ _ all in and_from _ _ (so e parts.0) (each_so p q so es parts.1)

-- an edge that begins below n
below : (borne : Label → Bool) (by_own on_this : Bool) (n l : ℕ) → n ≤ l → (e : Edge) → nat_lt e.from n ≡ true → not (edge_fits borne by_own on_this l e) ≡ true
below borne by_own on_this n l past e small =
    let low = ltb-true e.from n small in
    ap (λ b. not (b && borne e.label && thread_fits e.thread by_own && address_fits e.address on_this)) (ne_eqb e.from l (λ same. omega (arith, same)))

pub past_all : (o : Observer) (l : ℕ) (kind : EvKind) (by_own on_this : Bool) → count_of o ≤ l → step o l kind by_own on_this ≡ Some l
unfolding step
past_all Plain l kind by_own on_this past = no_edge (bears Plain kind) by_own on_this l (edges_of Plain) (each_so (λ e. nat_lt e.from 2) _ (below (bears Plain kind) by_own on_this 2 l past) (edges_of Plain) refl)
past_all (Hazard f) l kind by_own on_this past = no_edge (bears (Hazard f) kind) by_own on_this l (edges_of (Hazard f)) (each_so (λ e. nat_lt e.from 7) _ (below (bears (Hazard f) kind) by_own on_this 7 l past) (edges_of (Hazard f)) refl)
past_all (Epoch e m) l kind by_own on_this past = no_edge (bears (Epoch e m) kind) by_own on_this l (edges_of (Epoch e m)) (each_so (λ e. nat_lt e.from 7) _ (below (bears (Epoch e m) kind) by_own on_this 7 l past) (edges_of (Epoch e m)) refl)

-- an edge for the thread itself or for the address itself
near : Edge → Bool
near e = not (thread_fits e.thread false && address_fits e.address false)

unfit : (x t w : Bool) → not (t && w) ≡ true → not (x && t && w) ≡ true
unfit false t w h = refl
unfit true t w h = h

far : (borne : Label → Bool) (l : ℕ) (e : Edge) → near e ≡ true → not (edge_fits borne false false l e) ≡ true
unfolding near
far borne l e h = unfit ((e.from == l) && borne e.label) (thread_fits e.thread false) (address_fits e.address false) h

-- another thread and another address
pub far_stays : (o : Observer) (l : ℕ) (kind : EvKind) → step o l kind false false ≡ Some l
unfolding step near
far_stays Plain l kind = no_edge (bears Plain kind) false false l (edges_of Plain) (each_so near _ (far (bears Plain kind) l) (edges_of Plain) refl)
far_stays (Hazard f) l kind = no_edge (bears (Hazard f) kind) false false l (edges_of (Hazard f)) (each_so near _ (far (bears (Hazard f) kind) l) (edges_of (Hazard f)) refl)
far_stays (Epoch e m) l kind = no_edge (bears (Epoch e m) kind) false false l (edges_of (Epoch e m)) (each_so near _ (far (bears (Epoch e m) kind) l) (edges_of (Epoch e m)) refl)
