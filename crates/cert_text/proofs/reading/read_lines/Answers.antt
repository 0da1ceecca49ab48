use Rattle.std.proofs.Common.{◌≡◌, ◌==◌, sym, ◌∙◌, ap, subst, arith, ◌+◌, ◌-◌, length, take, drop, List, ℕ}
use Rattle.std.specs.List.{slice_split}
use Rattle.std.proofs.lemmas.Grind.{common_steps}
use Rattle.std.proofs.lemmas.List.Quantifiers.{position-Some}
use Rattle.cert_text.specs.Lines.{IsReadAs, reading_from}
use Rattle.cert_text.proofs.FirstBadLine.{comes_to, goes_on, never_empty, split_at_place, split_nowhere, stops}
use Rattle.cert_text.proofs.Missing.{behind_missing}
use Rattle.cert_text.proofs.reading.read_lines.Goals as goal

pub returns-in-None : goal.returns-in-None
returns-in-None c =
    let rest = c.loop-end.rest.now in
    let behind = drop (c.in-Some.end + 1) rest in
    sym c.loop-end.invariant.0
    ∙ (ap (reading_from c.loop-end.stage c.loop-end.line) (split_at_place rest c.in-Some.end (sym c.in-Some.ensures))
    ∙ stops c.loop-end.stage c.loop-end.line (take c.in-Some.end rest) (slice_split (λ byte. byte == 10) behind) (never_empty behind) (sym c.in_ok-next.ensures ∙ c.in-None.is))

pub loop-end-smaller : goal.loop-end-smaller
loop-end-smaller c =
    let inside = (position-Some (λ (byte : ℕ). byte == 10) c.loop-end.rest.now c.in-Some.end 0 (sym c.in-Some.ensures)).0 in
    grind (arith, common_steps, inside)

pub loop-end-preserved : goal.loop-end-preserved
loop-end-preserved c =
    let rest = c.loop-end.rest.now in
    let place = c.in-Some.end + 1 in
    let behind = drop place rest in
    let inside = (position-Some (λ (byte : ℕ). byte == 10) rest c.in-Some.end 0 (sym c.in-Some.ensures)).0 in
    let back : take (length rest - place) behind ≡ behind = grind (arith, common_steps) in
    let comes = sym c.in_ok-next.ensures ∙ c.in-Some-2.is in
    let long : length behind + place ≡ length rest = grind (arith, common_steps, inside) in
    let same = ap (λ (t : List ℕ). length t) back in (
      ap (λ (t : List ℕ). reading_from c.in-Some-2.next (c.loop-end.line + 1) (slice_split (λ byte. byte == 10) t)) back
          ∙ (sym (goes_on c.loop-end.stage c.in-Some-2.next c.loop-end.line (take c.in-Some.end rest) (slice_split (λ byte. byte == 10) behind) (never_empty behind) comes)
          ∙ (sym (ap (reading_from c.loop-end.stage c.loop-end.line) (split_at_place rest c.in-Some.end (sym c.in-Some.ensures))) ∙ c.loop-end.invariant.0)),
      omega (arith, same, long, c.loop-end.invariant.1),
      omega arith,
      behind_missing c.loop-end.stage (take c.in-Some.end rest) c.in-Some-2.next c.loop-end.line c.loop-end.invariant.2 c.loop-end.invariant.3 comes,
    )

pub returns : goal.returns
returns c =
    let rest = c.loop-end.rest.now in
    subst (λ r. IsReadAs r c.ended.result)
    (sym (comes_to c.loop-end.stage c.loop-end.line rest) ∙ (sym (ap (reading_from c.loop-end.stage c.loop-end.line) (split_nowhere rest (sym c.line_feed.ensures ∙ c.in_default.is))) ∙ c.loop-end.invariant.0)) c.ended.ensures
