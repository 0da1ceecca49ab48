use Rattle.std.proofs.Common.{◌≡◌, IsTrue, subst, sym, ◌∙◌, ap, ◌≤◌, ◌↔◌, Bool}
use Rattle.std.specs.Cmp.Lexicographic.{slice_cmp}
use Rattle.std.specs.Ordering.{nat_cmp, is_ge}
use Rattle.frac_text.specs.Digits.{number}
use Rattle.frac_text.proofs.Sizes.{is_ge_digits}
use Rattle.frac_text.proofs.parts.is_at_least.Goals as goal

pub returns : goal.returns
returns c =
    let h : c.is_ge.result ≡ is_ge (slice_cmp nat_cmp c.args.left.now c.args.right.now) = c.is_ge.ensures ∙ ap is_ge c.cmp.ensures in
    let P : Bool → Type 0 = λ b. IsTrue b ↔ (number c.args.right.now ≤ number c.args.left.now) in
    subst P (sym h) (is_ge_digits c.args.left.now c.args.right.now c.requires.left_digits c.requires.right_digits c.requires.same_len)
