-- What two writes in a row append.
use Rattle.std.proofs.Common.{◌≡◌, ℕ, ◌+◌, ◌-◌, length, List, ◌++◌, take, drop, Option, Some, None, IfSome, [], append-nil, sym, ap, ◌∙◌, append_assoc}
use Rattle.std.proofs.Math.Seq.{take-add, take-length}
use Rattle.std.proofs.lemmas.List.{length-drop}
use Rattle.plc_outside.specs.Known.{KnownSink}
use Rattle.plc_outside.specs.Outside.{Appends}

written_more : (old mid new : List ℕ) (text : List ℕ) (done n : ℕ) → mid ≡ old ++ take done text
    → new ≡ mid ++ take n (drop done text) → new ≡ old ++ take (done + n) text
written_more w mid new text done n p q =
    let step : new ≡ (w ++ take done text) ++ take n (drop done text) = rw p at q in
    step ∙ append_assoc w (take done text) (take n (drop done text))
    ∙ ap (λ (t : List ℕ). w ++ t) (sym (take-add done n text))

held_more : (old mid new : Option (List ℕ)) (text : List ℕ) (done n : ℕ)
    → IfSome old (λ bytes. mid ≡ Some (bytes ++ take done text))
    → IfSome mid (λ bytes. new ≡ Some (bytes ++ take n (drop done text)))
    → IfSome old (λ bytes. new ≡ Some (bytes ++ take (done + n) text))
held_more None mid new text done n p q = tt
held_more (Some w) mid new text done n p q =
    let step : IfSome (Some (w ++ take done text)) (λ bytes. new ≡ Some (bytes ++ take n (drop done text))) = rw p at q
    in
    step ∙ ap Some (append_assoc w (take done text) (take n (drop done text))
    ∙ ap (λ (t : List ℕ). w ++ t) (sym (take-add done n text)))

pub Appends-more : (old mid new : KnownSink) (text : List ℕ) (done n : ℕ) → Appends old mid (take done text)
    → Appends mid new (take n (drop done text)) → Appends old new (take (done + n) text)
Appends-more old mid new text done n p q = record {
  written = written_more old.written mid.written new.written text done n p.written q.written;
  held = held_more old.held mid.held new.held text done n p.held q.held;
}

held_nothing : (held : Option (List ℕ)) → IfSome held (λ bytes. held ≡ Some (bytes ++ []))
held_nothing None = tt
held_nothing (Some bytes) = ap Some (sym (append-nil bytes))

-- a sink to which nothing was written
pub nothing_written : (sink : KnownSink) → Appends sink sink []
nothing_written sink = record { written = sym (append-nil sink.written); held = held_nothing sink.held }

-- the whole rest of a text
rest_whole : (n : ℕ) (text : List ℕ) → take (length text - n) (drop n text) ≡ drop n text
rest_whole n text = ap (λ (k : ℕ). take k (drop n text)) (sym (length-drop n text)) ∙ take-length (drop n text)

-- the same where the piece is written as a range of the text
pub Appends-range : (old mid new : KnownSink) (text : List ℕ) (done n : ℕ) → Appends old mid (take done text) → Appends mid new (take n (take (length text - done) (drop done text))) → Appends old new (take (done + n) text)
Appends-range old mid new text done n p q = Appends-more old mid new text done n p (rw (rest_whole done text) at q)
