-- The changes of a log, from the first one on, and with one more.
use Rattle.std.proofs.Common.{◌≡◌, refl, sym, ◌∙◌, ap, subst, arith, ℕ, zero, suc, ◌+◌, ◌<◌, ◌≤◌, List, [], ◌∷◌, ◌++◌, length, take, drop, get_or, Result, Ok, Err, ◌⊎◌, inl, inr}
use Rattle.std.specs.List.{AllByRecursion}
use Rattle.base_names.specs.declared.refusal.Refusal.{Refusal}
use Rattle.base_names.specs.declared.refusal.Refusal.TheVariants.{MEMORY}
use Rattle.model_data.specs.declared.model.Model.{Model}
use Rattle.model_core.specs.Asked.{IsLawfulChange}
use Rattle.model_core.specs.One.{after, fold, one}
use Rattle.model_core.specs.declared.change.Change.{Change}
use Rattle.lazy_model.specs.Log.{AreAccepted, IsBeside, IsLog, queued_of}
use Rattle.lazy_model.specs.declared.replay.Side.{Side}
use Rattle.lazy_model.specs.declared.replay.Side.TheVariants.{Ahead, Apart, Behind}

pub fold-push : (m : Model) (changes : List Change) (c : Change) → fold m (changes ++ c ∷ []) ≡ after (fold m changes) c
fold-push m [] c = refl
fold-push m (d ∷ changes) c = fold-push (after m d) changes c

accepted-push : (m : Model) (changes : List Change) (c : Change) → AreAccepted m changes → one (fold m changes) c ≡ Ok (after (fold m changes) c)
    → AreAccepted m (changes ++ c ∷ [])
accepted-push m [] c h k = (k, tt)
accepted-push m (d ∷ changes) c h k = (h.0, accepted-push (after m d) changes c (h.1) k)

lawful-push : (changes : List Change) (c : Change) → AllByRecursion IsLawfulChange changes → IsLawfulChange c → AllByRecursion IsLawfulChange (changes ++ c ∷ [])
lawful-push [] c h k = (k, tt)
lawful-push (d ∷ changes) c h k = (h.0, lawful-push changes c (h.1) k)

-- the model after an accepted change
pub after-ok : (m n : Model) (c : Change) (r : Result Model Refusal) → one m c ≡ r → r ≡ Ok n → after m c ≡ n
after-ok m n c r e f = ap (λ (s : Result Model Refusal). elim s [ Ok next ↦ next | Err _ ↦ m ]) (e ∙ f)

-- a log with one more change, which is accepted
pub log-push : (log : List Change) (from to next : Model) (c : Change) → IsLog log from to → IsLawfulChange c → one to c ≡ Ok next → IsLog (log ++ c ∷ []) from next
log-push log from to next c h asked ok =
    let here : one (fold from log) c ≡ Ok next = ap (λ (m : Model). one m c) h.leads ∙ ok in
    let is : after (fold from log) c ≡ next = after-ok (fold from log) next c (Ok next) here refl in
    record {
      accepted = accepted-push from log c h.accepted (here ∙ ap Ok (sym is));
      lawful = lawful-push log c h.lawful asked;
      leads = fold-push from log c ∙ is;
    }

-- the first change of a log is a lawful one, it is accepted, and the others lead on from the model after it
pub log-first-lawful : (log : List Change) (from to : Model) (c : Change) → 0 < length log → c ≡ get_or log 0 c → IsLog log from to → IsLawfulChange c
log-first-lawful [] from to c some is h = absurd (omega (arith, some))
log-first-lawful (d ∷ log) from to c some is h = subst IsLawfulChange (sym is) (h.lawful.0)

pub log-first-accepted : (log : List Change) (from to : Model) (c : Change) → 0 < length log → c ≡ get_or log 0 c → IsLog log from to → one from c ≡ Ok (after from c)
log-first-accepted [] from to c some is h = absurd (omega (arith, some))
log-first-accepted (d ∷ log) from to c some is h = subst (λ (e : Change). one from e ≡ Ok (after from e)) (sym is) (h.accepted.0)

pub log-rest : (log : List Change) (from to : Model) (c : Change) → 0 < length log → c ≡ get_or log 0 c → IsLog log from to → IsLog (drop 1 log) (after from c) to
log-rest [] from to c some is h = absurd (omega (arith, some))
log-rest (d ∷ log) from to c some is h = subst (λ (e : Change). IsLog log (after from e) to) (sym is) (record {
  accepted = h.accepted.1;
  lawful = h.lawful.1;
  leads = h.leads;
})

-- so the answer to it is never a refusal
pub only-memory : (m n : Model) (c : Change) (r : Refusal) → one m c ≡ Ok n → (r ≡ MEMORY) ⊎ (one m c ≡ Err r) → r ≡ MEMORY
only-memory m n c r ok (inl memory) = memory
only-memory m n c r ok (inr err) = absurd cc

pub no_items : {X : Type 0} (xs : List X) → length xs ≡ 0 → xs ≡ []
no_items [] e = refl
no_items (x ∷ xs) e = absurd (omega (arith, e))

pub fold-parts : (m : Model) (changes : List Change) (mark : ℕ) → fold (fold m (take mark changes)) (drop mark changes) ≡ fold m changes
fold-parts m [] zero = refl
fold-parts m [] (suc mark) = refl
fold-parts m (c ∷ changes) zero = refl
fold-parts m (c ∷ changes) (suc mark) = fold-parts (after m c) changes mark

pub take-push : (changes : List Change) (c : Change) (mark : ℕ) → mark ≤ length changes → take mark (changes ++ c ∷ []) ≡ take mark changes
take-push [] c zero le = refl
take-push [] c (suc mark) le = absurd (omega (arith, le))
take-push (d ∷ changes) c zero le = refl
take-push (d ∷ changes) c (suc mark) le = ap (λ (l : List Change). d ∷ l) (take-push changes c mark (omega (arith, le)))

pub drop-push : (changes : List Change) (c : Change) (mark : ℕ) → mark ≤ length changes → drop mark (changes ++ c ∷ []) ≡ drop mark changes ++ c ∷ []
drop-push [] c zero le = refl
drop-push [] c (suc mark) le = absurd (omega (arith, le))
drop-push (d ∷ changes) c zero le = refl
drop-push (d ∷ changes) c (suc mark) le = drop-push changes c mark (omega (arith, le))

pub take-all : (changes : List Change) → take (length changes) changes ≡ changes
take-all [] = refl
take-all (d ∷ changes) = ap (λ (l : List Change). d ∷ l) (take-all changes)

pub drop-all : (changes : List Change) → drop (length changes) changes ≡ []
drop-all [] = refl
drop-all (d ∷ changes) = drop-all changes

-- what the two sides mean
module _ (side : Side) (log : List Change) (applied other : Model) where
  pub beside_ahead : side ≡ Ahead → IsBeside side log applied other → IsLog log applied other
  beside_ahead e h = subst (λ (s : Side). IsBeside s log applied other) e h

  pub beside_behind : side ≡ Behind → IsBeside side log applied other → IsLog log other applied
  beside_behind e h = subst (λ (s : Side). IsBeside s log applied other) e h

  pub beside_apart : side ≡ Apart → IsBeside side log applied other → log ≡ []
  beside_apart e h = subst (λ (s : Side). IsBeside s log applied other) e h

  pub apart_beside : side ≡ Apart → log ≡ [] → IsBeside side log applied other
  apart_beside e h = subst (λ (s : Side). IsBeside s log applied other) (sym e) h

  pub behind_beside : side ≡ Behind → IsLog log other applied → IsBeside side log applied other
  behind_beside e h = subst (λ (s : Side). IsBeside s log applied other) (sym e) h

pub queued_ahead : (side : Side) (log : List Change) → side ≡ Ahead → queued_of side log ≡ log
queued_ahead side log e = ap (λ (s : Side). queued_of s log) e

pub queued_apart : (side : Side) (log : List Change) → side ≡ Apart → queued_of side log ≡ []
queued_apart side log e = ap (λ (s : Side). queued_of s log) e

-- without a change equal models are as far as each other
pub same_log : (log : List Change) (from to : Model) → log ≡ [] → to ≡ from → IsLog log from to
same_log log from to e same = subst (λ (l : List Change). IsLog l from to) (sym e) (record { accepted = tt; lawful = tt; leads = sym same })

pub queued_behind : (side : Side) (log : List Change) → side ≡ Behind → queued_of side log ≡ []
queued_behind side log e = ap (λ (s : Side). queued_of s log) e

-- without a change both models are one
pub turned : (log : List Change) (from to : Model) → log ≡ [] → IsLog log from to → IsLog log to from
turned log from to e h =
    let same : from ≡ to = ap (λ (l : List Change). fold from l) (sym e) ∙ h.leads in
    subst (λ (l : List Change). IsLog l to from) (sym e) (record { accepted = tt; lawful = tt; leads = sym same })

pub one_shorter : {X : Type 0} (xs : List X) → 0 < length xs → length (drop 1 xs) + 1 ≡ length xs
one_shorter [] some = absurd (omega (arith, some))
one_shorter (x ∷ xs) some = omega arith
