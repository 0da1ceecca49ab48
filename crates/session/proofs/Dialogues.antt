-- Laws of what a dialogue tells, for frames and for bytes in pieces.
use Rattle.std.proofs.Common.{◌≡◌, ℕ, List, [], ◌∷◌, refl, sym, ap, ap₂, ◌∙◌, append_assoc}
use Rattle.std.proofs.lemmas.List.{append-nil}
use Rattle.base_io.specs.Frames.{Frame}
use Rattle.session.specs.Dialogue.{Told, told_nothing, told_both, IsFront, Course, Over, Said, Dialogue, behind, says_nothing, said}

told_of : {Deed : Type 0} → List ℕ → List Deed → Told Deed
told_of text deeds = record { text = text; deeds = deeds }

pub told_both-assoc : {Deed : Type 0} (a b c : Told Deed) → told_both a (told_both b c) ≡ told_both (told_both a b) c
unfolding told_of
told_both-assoc {Deed} a b c = ap₂ (λ (text : List ℕ) (deeds : List Deed). told_of text deeds) (sym (append_assoc a.text b.text c.text)) (sym (append_assoc a.deeds b.deeds c.deeds))

pub told_both-nothing : {Deed : Type 0} (a : Told Deed) → told_both a told_nothing ≡ a
unfolding told_of
told_both-nothing {Deed} a = ap₂ (λ (text : List ℕ) (deeds : List Deed). told_of text deeds) (append-nil a.text) (append-nil a.deeds)

-- a front, and then more of the whole
pub IsFront-more : {Deed : Type 0} (front told more : Told Deed) → IsFront front told → IsFront front (told_both told more)
IsFront-more {Deed} front told more (rest, is) = (told_both rest more, told_both-assoc front rest more ∙ ap (λ (t : Told Deed). told_both t more) is)

-- behind one thing told and then another
pub behind-more : {Session Deed : Type 0} (first then : Told Deed) (next : Said Session Deed) → behind first (behind then next) ≡ behind (told_both first then) next
behind-more {Session} {Deed} first then next = ap (λ (t : Told Deed). let s : Said Session Deed = record { told = t; course = next.course } in s) (told_both-assoc first then next.told)

pub behind-nothing : {Session Deed : Type 0} (told : Told Deed) (course : Course Session) → behind told (says_nothing course) ≡ record { told = told; course = course }
behind-nothing {Session} {Deed} told course = ap (λ (t : Told Deed). let s : Said Session Deed = record { told = t; course = course } in s) (told_both-nothing told)

module _ {Session Deed : Type 0} (dialogue : Dialogue Session Deed) where
  -- nothing is said once it is over
  pub said-over : (frames : List Frame) → said dialogue Over frames ≡ says_nothing Over
  said-over [] = refl
  said-over (x ∷ xs) = ap (behind told_nothing) (said-over xs)
