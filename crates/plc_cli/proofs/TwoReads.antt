-- One read, and two, one after the other: what is known before the first and after the last.
use Rattle.std.proofs.Common.{◌≡◌, ◌<◌, inl, inr, ℕ, List, [], ◌∷◌, ◌++◌, Option, Some, None, length, ap, ◌∙◌, subst}
use Rattle.std.proofs.Common.{arith, append_assoc, append-nil}
use Rattle.std.specs.Prelude.{IfSome}
use Rattle.plc_base.specs.FileSizes.{largest_file}
use Rattle.plc_outside.specs.Known.{KnownFiles}
use Rattle.plc_outside.specs.Reading.{Reading}
use Rattle.plc_cli.specs.Reads.{FilesAreKept, NoFaultBut, Only, Either, reading, IsUnread, IsUnreadPair, IsSecondUnread}
use Rattle.plc_cli.specs.Reads.{IsGivenPair, IsFound}
use Rattle.plc_cli.specs.Statuses.{unread}

-- bytes that a read gave, where the content is told
pub told_is : (told : Option (List ℕ)) (bytes content : List ℕ) → IfSome told (λ c. bytes ≡ c) → told ≡ Some content → bytes ≡ content
told_is None bytes content h e = absurd cc
told_is (Some c) bytes content h e = cc

-- the status where a file can't be read
module _ (status : ℕ) (text : List ℕ) where
  pub unread_status : (may : List ℕ → Type 0) (old new : KnownFiles) (before : List Reading) (name : List ℕ)
      (most : ℕ) → IsUnread may old new before name most status text → status ≡ unread
  unread_status may old new before name most (inl failed) = failed.status_is
  unread_status may old new before name most (inr long) = long.status_is

  pub unread_pair_status : (old new : KnownFiles) (first second : List ℕ) (most : ℕ) →
      IsUnreadPair old new first second most status text → status ≡ unread
  unread_pair_status old new first second most (inl none) = unread_status _ _ _ _ _ _ none
  unread_pair_status old new first second most (inr none) = unread_status _ _ _ _ _ _ none.unread

module _ (old mid new : KnownFiles) (first second : List ℕ) (most : ℕ) (a : FilesAreKept old mid) where
  pub two_reads_keep : FilesAreKept mid new → FilesAreKept old new
  two_reads_keep b = record { content = λ name. b.content name ∙ a.content name; faults = λ name. omega (arith, a.faults name, b.faults name) }

  module _ (bytes : List ℕ) (found : IsFound old mid first largest_file bytes) where
    -- a count that neither read may raise is what it was
    no_other : NoFaultBut (Only second) mid new → NoFaultBut (Either first second) old new
    no_other kept other neither = kept other (λ e. neither (inr e)) ∙ found.others other (λ e. neither (inl e))

    told_before : (P : List ℕ → Type 0) → IfSome (mid.content second) P → IfSome (old.content second) P
    told_before P h = subst (λ (o : Option (List ℕ)). IfSome o P) (a.content second) h

    gave_first : new.given ≡ mid.given ++ [] → new.given ≡ old.given ++ reading first bytes ∷ []
    gave_first e = e ∙ append-nil mid.given ∙ found.gave

    pub given_pair : (more : List ℕ) → IsFound mid new second most more → IsGivenPair old new first second most bytes more
    given_pair more next = record {
      others = no_other next.others;
      read = found.read;
      read_second = record { short = next.read.short; told = told_before (λ c. more ≡ c) next.read.told };
      gave = next.gave ∙ ap (λ reads. reads ++ reading second more ∷ []) found.gave ∙ append_assoc old.given (reading first bytes ∷ []) (reading second more ∷ []);
    }

    pub second_unread : (status : ℕ) (text : List ℕ) → IsUnread (Only second) mid new [] second most status text → IsSecondUnread old new first second most status text
    second_unread status text (inl failed) = record {
      bytes = bytes;
      read = found.read;
      unread = inl (record {
        rose = omega (arith, failed.rose, a.faults second);
        others = no_other failed.others;
        gave = gave_first failed.gave;
        status_is = failed.status_is;
        text_is = failed.text_is;
      });
    }
    second_unread status text (inr long) = record {
      bytes = bytes;
      read = found.read;
      unread = inr (record {
        others = no_other long.others;
        gave = gave_first long.gave;
        long = long.long;
        told = told_before (λ c. most < length c) long.told;
        status_is = long.status_is;
        text_is = long.text_is;
      });
    }
