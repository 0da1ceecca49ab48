-- Each sound stage can be gone on with to the end.
use Rattle.std.proofs.Common.{◌≡◌, refl, sym, ◌∙◌, ap, subst, ℕ, zero, suc, ◌+◌, ◌-◌, ◌==◌, Bool, true, false, List, [], ◌∷◌, ◌++◌, flat_map, Option, Some, None, arith, append_assoc}
use Rattle.std.specs.Prelude.{is_some}
use Rattle.std.specs.List.{list_all}
use Rattle.std.proofs.lemmas.Bool.{and_from}
use Rattle.std.proofs.lemmas.Grind.{flat_map-append}
use Rattle.std.proofs.lemmas.List.{append-nil}
use Rattle.frac128.specs.Fraction.{zero_value}
use Rattle.frac128.specs.declared.operations.Op.TheVariants.{Add}
use Rattle.frac128.proofs.Kept.{IsKept-zero}
use Rattle.model_data.specs.declared.solution.Cert.{Cert}
use Rattle.model_data.specs.declared.solution.Cert.TheVariants.{Nothing, Ray, Tree}
use Rattle.model_data.specs.declared.solution.CertNode.{CertNode}
use Rattle.model_data.specs.declared.solution.CertNode.TheVariants.{Split, Bound, Farkas}
use Rattle.model_data.specs.declared.solution.Outcome.{Outcome}
use Rattle.model_data.specs.declared.solution.WideAt.{WideAt}
use Rattle.solve_defs.specs.Certificates.{are_whole}
use Rattle.solve_defs.specs.declared.status.TheConstants.{NUMERIC}
use Rattle.cert_text.specs.Entries.{HaveNumbers}
use Rattle.cert_text.specs.Spelling.{IsWritable, cert_entries, entries, is_lawful_node, node_entries, outcome_entries, point_entries}
use Rattle.cert_text.specs.Stages.{no_weights}
use Rattle.cert_text.specs.declared.entry.Entry.{Entry}
use Rattle.cert_text.specs.declared.entry.Entry.TheVariants as entry
use Rattle.cert_text.specs.declared.stage.Stage.{Stage}
use Rattle.cert_text.specs.declared.stage.Stage.TheVariants as stage
use Rattle.cert_text.proofs.Basics.{all-append}
use Rattle.cert_text.proofs.Stages.{HasWide, IsSound, IsTreeSoFar, MayHaveWide, go_on, left_behind, read_so_far}

-- something to write that begins with what was read
pub record CanEnd (read : List Entry) : Type 0 where
  pub outcome : Outcome
  pub cert : Cert
  pub rest : List Entry
  pub writable : IsWritable outcome cert
  pub entries_are : entries outcome cert ≡ read ++ rest
  pub numbers : HaveNumbers rest

-- so many leaves without weights
leaves : ℕ → List CertNode
leaves zero = []
leaves (suc n) = Bound no_weights ∷ leaves n

leaves-whole : (n : ℕ) → are_whole n (leaves n) ≡ true
unfolding leaves
leaves-whole zero = refl
leaves-whole (suc n) = leaves-whole n

leaves-lawful : (n : ℕ) → list_all is_lawful_node (leaves n) ≡ true
unfolding leaves
leaves-lawful zero = refl
leaves-lawful (suc n) = leaves-lawful n

leaves-numbers : (n : ℕ) → HaveNumbers (flat_map node_entries (leaves n) ++ entry.End ∷ [])
unfolding leaves
leaves-numbers zero = (tt, tt)
leaves-numbers (suc n) = (tt, leaves-numbers n)

-- nodes that stand, with the leaves that are to come
filled : (missing : ℕ) (nodes : List CertNode) → go_on missing nodes ≡ true → are_whole missing (nodes ++ leaves (left_behind missing nodes)) ≡ true
unfolding go_on left_behind
filled missing [] h = leaves-whole missing
filled zero (node ∷ nodes) h = absurd cc
filled (suc missing) (Split var k ∷ nodes) h =
    let two : suc missing + 1 ≡ suc (suc missing) = omega arith in
    subst (λ m. are_whole (suc (suc missing)) (nodes ++ leaves (left_behind m nodes)) ≡ true) (sym two) (filled (suc (suc missing)) nodes (subst (λ m. go_on m nodes ≡ true) two h))
filled (suc missing) (Bound ws ∷ nodes) h =
    let one : suc missing - 1 ≡ missing = omega arith in
    subst (λ m. are_whole missing (nodes ++ leaves (left_behind m nodes)) ≡ true) (sym one) (filled missing nodes (subst (λ m. go_on m nodes ≡ true) one h))
filled (suc missing) (Farkas ws ∷ nodes) h =
    let one : suc missing - 1 ≡ missing = omega arith in
    subst (λ m. are_whole missing (nodes ++ leaves (left_behind m nodes)) ≡ true) (sym one) (filled missing nodes (subst (λ m. go_on m nodes ≡ true) one h))

tree-ends : (o : Outcome) (missing : ℕ) (nodes : List CertNode) → HasWide o → IsTreeSoFar missing nodes → CanEnd (outcome_entries o ++ flat_map node_entries nodes)
tree-ends o missing nodes wide h =
    let more = leaves (left_behind 1 nodes) in
    let rest = flat_map node_entries more ++ entry.End ∷ [] in
    record {
      outcome = o;
      cert = Tree (nodes ++ more);
      rest = rest;
      writable = record { wide = wide; cert = and_from (are_whole 1 (nodes ++ more)) (list_all is_lawful_node (nodes ++ more)) (filled 1 nodes h.stand) (all-append is_lawful_node nodes more h.lawful (leaves-lawful (left_behind 1 nodes))) };
      entries_are = ap (λ es. outcome_entries o ++ es) (ap (λ es. es ++ entry.End ∷ []) (flat_map-append node_entries nodes more) ∙ append_assoc (flat_map node_entries nodes) (flat_map node_entries more) (entry.End ∷ [])) ∙ sym (append_assoc (outcome_entries o) (flat_map node_entries nodes) rest);
      numbers = leaves-numbers (left_behind 1 nodes);
    }

-- a certificate to which only the end is wanting
cert-ends : (o : Outcome) (c : Cert) → IsWritable o c → CanEnd (outcome_entries o ++ cert_entries c)
cert-ends o c h = record {
  outcome = o;
  cert = c;
  rest = entry.End ∷ [];
  writable = h;
  entries_are = sym (append_assoc (outcome_entries o) (cert_entries c) (entry.End ∷ []));
  numbers = (tt, tt);
}

-- an outcome to which nothing is wanting
outcome-ends : (o : Outcome) → HasWide o → CanEnd (outcome_entries o)
outcome-ends o wide = record {
  outcome = o;
  cert = Nothing;
  rest = entry.Nothing ∷ entry.End ∷ [];
  writable = record { wide = wide; cert = refl };
  entries_are = refl;
  numbers = (tt, (tt, tt));
}

some_wide : WideAt
some_wide = record { at = 0; wide = record { op = Add; left = zero_value; right = zero_value } }

-- an outcome that has to tell what doesn't fit
wide-wanting : (o : Outcome) → o.wide ≡ None → (o.status == NUMERIC) ≡ true → CanEnd (outcome_entries o)
unfolding some_wide
wide-wanting o none numeric = record {
  outcome = record o { wide = Some some_wide };
  cert = Nothing;
  rest = entry.Wide some_wide ∷ entry.Nothing ∷ entry.End ∷ [];
  writable = record { wide = sym numeric; cert = refl };
  entries_are = rw none (ap (λ es. entry.Outcome o.status o.pivots o.nodes o.work ∷ es) (append_assoc (point_entries o.point) (entry.Wide some_wide ∷ []) (entry.Nothing ∷ entry.End ∷ []) ∙ ap (λ es. es ++ entry.Wide some_wide ∷ entry.Nothing ∷ entry.End ∷ []) (sym (append-nil (point_entries o.point)))));
  numbers = ((omega arith, IsKept-zero, IsKept-zero), (tt, (tt, tt)));
}

either-ends : (o : Outcome) (wide : Option WideAt) (b : Bool) → o.wide ≡ wide → (o.status == NUMERIC) ≡ b → MayHaveWide o → CanEnd (outcome_entries o)
either-ends o (Some w) b e k h = outcome-ends o (let is : is_some o.wide ≡ true = ap is_some e in is ∙ sym (h is))
either-ends o None false e k h = outcome-ends o (ap is_some e ∙ sym k)
either-ends o None true e k h = wide-wanting o e k

start_outcome : Outcome
start_outcome = record { status = 0; pivots = 0; nodes = 0; work = 0; point = None; wide = None }

start-ends : CanEnd []
unfolding start_outcome
start-ends = record {
  outcome = start_outcome;
  cert = Nothing;
  rest = entries start_outcome Nothing;
  writable = record { wide = refl; cert = refl };
  entries_are = refl;
  numbers = ((omega arith, omega arith, omega arith, omega arith), (tt, (tt, tt)));
}

pub can_end : (s : Stage) → IsSound s → CanEnd (read_so_far s)
can_end stage.Start h = start-ends
can_end (stage.Outcome o) h = either-ends o o.wide (o.status == NUMERIC) refl refl h
can_end (stage.Nothing o) h = cert-ends o Nothing record { wide = h; cert = refl }
can_end (stage.Ray o ray) h = cert-ends o (Ray ray.point ray.direction) record { wide = h; cert = refl }
can_end (stage.Tree o missing nodes last) h = tree-ends o missing (nodes ++ last ∷ []) h.0 h.1
can_end (stage.Whole proof) h = record {
  outcome = proof.outcome;
  cert = proof.cert;
  rest = [];
  writable = h;
  entries_are = sym (append-nil (entries proof.outcome proof.cert));
  numbers = tt;
}
