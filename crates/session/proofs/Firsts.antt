-- A program that reads its input from the first byte on.
use Rattle.std.proofs.Common.{◌≡◌, ℕ, List, [], ◌⊎◌, Option, inl, inr, refl, arith}
use Rattle.session.specs.Beginning.{at_first}
use Rattle.session.specs.Dialogue.{Told, Dialogue}
use Rattle.session.specs.Talk.{Says, Talked}
use Rattle.session.specs.Writing.{IsNeeded, writing_by}
use Rattle.session.specs.declared.talking.End.{End}

module _ {Session Deed : Type 0} (dialogue : Dialogue Session Deed) (first : Session) where
  -- where nothing was read, nothing was read too early
  needed_at_first : (taken : List ℕ) (told : Told Deed) → (taken ≡ []) ⊎ IsNeeded (writing_by dialogue at_first first) taken told → IsNeeded (writing_by dialogue at_first first) taken told
  needed_at_first taken told (inr needed) = needed
  needed_at_first taken told (inl none) = record {
    before = [];
    last = [];
    whole = none;
    short = omega arith;
    going = refl;
    answered = (told, refl);
  }

  pub says_at_first : (end : End) (told : Told Deed) (left left' contents contents' : Option (List ℕ)) → Talked end (writing_by dialogue at_first first) [] told left left' contents contents'
      → Says end (writing_by dialogue at_first first) told left left' contents contents'
  says_at_first end told left left' contents contents' talked = record {
    taken = talked.taken;
    read = talked.read;
    wrote = talked.wrote;
    needed = needed_at_first talked.taken told talked.needed;
    says = talked.says;
  }
