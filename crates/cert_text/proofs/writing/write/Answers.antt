use Rattle.std.proofs.Common.{List, ℕ, [], ◌∷◌, ◌++◌, ap, ◌∙◌, subst, append_assoc}
use Rattle.cert_text.specs.Entries.{HaveNumbers, text_of}
use Rattle.cert_text.specs.Spelling.{cert_entries, outcome_entries}
use Rattle.cert_text.specs.declared.entry.Entry.TheVariants as entry
use Rattle.cert_text.proofs.Added.{both_added}
use Rattle.cert_text.proofs.writing.write.Goals as goal

pub returns : goal.returns
returns c =
    let two = both_added _ _ _ _ _ c.in_ok-write_outcome.ensures c.in_ok-write_cert.ensures in
    let all = both_added _ _ _ _ _ two c.in_ok-write_entry.ensures in
    let es = (outcome_entries c.args.outcome.now ++ cert_entries c.args.cert.now) ++ entry.End ∷ [] in
    let same = append_assoc (outcome_entries c.args.outcome.now) (cert_entries c.args.cert.now) (entry.End ∷ []) in
    record {
      writable = c.requires;
      numbers = subst HaveNumbers same all.numbers;
      text_is = c.of.ensures ∙ (all.text ∙ (ap (λ (front : List ℕ). front ++ text_of es) c.new-out.ensures.items ∙ ap text_of same));
    }
