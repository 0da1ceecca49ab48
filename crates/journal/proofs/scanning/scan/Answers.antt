use Rattle.std.proofs.Common.{ℕ, List, [], ◌∷◌, ◌++◌, ◌≡◌, rules, ap, ◌∙◌, sym, subst, append_assoc}
use Rattle.journal.specs.Records.{opened, AreShort, bodies_from, AtGate}
use Rattle.journal.proofs.Reading.{record_read}
use Rattle.journal.proofs.Standing.{short_more}
use Rattle.journal.proofs.Tearing.{opened_behind}
use Rattle.journal.proofs.scanning.scan.Goals as goal

pub loop-body-preserved : goal.loop-body-preserved
loop-body-preserved c =
    let body = c.in-Some.body.now in
    let after = c.in-Some.after.now in
    let before : List (List ℕ) = c.loop-body.all.items in
    let all_are : c.push.new.self.items ≡ before ++ body ∷ [] = c.in_ok-push.ensures.items ∙ ap (λ (b : List ℕ). before ++ b ∷ []) (c.of.ensures ∙ c.in_ok-from_slice.ensures.items) in
    record {
      read = c.loop-body.invariant.read ∙ (ap (λ (l : List ℕ). opened before ++ l) c.in-Some.ensures.0 ∙ (opened_behind before body after ∙ ap (λ (bs : List (List ℕ)). opened bs ++ after) (sym all_are)));
      told = c.loop-body.invariant.told ∙ (ap (λ (bs : List (List ℕ)). before ++ bs) (ap (bodies_from AtGate) c.in-Some.ensures.0 ∙ record_read body after c.in-Some.ensures.1 c.in-Some.ensures.2)
          ∙ (sym (append_assoc before (body ∷ []) (bodies_from AtGate after)) ∙ ap (λ (bs : List (List ℕ)). bs ++ bodies_from AtGate after) (sym all_are)));
      short = subst AreShort (sym all_are) (short_more before body c.loop-body.invariant.short c.in-Some.ensures.2);
    }
