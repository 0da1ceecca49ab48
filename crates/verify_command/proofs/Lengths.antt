-- How long what is read from a text may be.
use Rattle.std.proofs.Common.{◌≡◌, ℕ, ◌^◌, ◌<◌, ◌≤◌, List, [], ◌∷◌, ◌++◌, length, flat_map, ap, arith}
use Rattle.std.proofs.lemmas.List.{length-append}
use Rattle.model_data.specs.declared.solution.Cert.{Cert}
use Rattle.model_data.specs.declared.solution.Cert.TheVariants.{Nothing, Ray, Tree}
use Rattle.model_data.specs.declared.solution.CertNode.{CertNode}
use Rattle.model_data.specs.declared.solution.CertNode.TheVariants.{Split, Bound, Farkas}
use Rattle.model_data.specs.declared.solution.Outcome.{Outcome}
use Rattle.cert_check.specs.Countable.{IsCountable}
use Rattle.cert_text.specs.Entries.{entry_text, line, text_of}
use Rattle.cert_text.specs.Spelling.{Spells, cert_entries, entries, node_entries, outcome_entries}
use Rattle.cert_text.specs.declared.entry.Entry.{Entry}
use Rattle.cert_text.specs.declared.entry.Entry.TheVariants as entry

-- each entry has a line, and each line a byte
entries_within : (es : List Entry) → length es ≤ length (text_of es)
entries_within [] = omega arith
entries_within (e ∷ es) = omega (arith, entries_within es, length-append (line (entry_text e)) (text_of es), length-append (entry_text e) (10 ∷ []))

-- each node has an entry
some_entry : (node : CertNode) → 1 ≤ length (node_entries node)
some_entry (Split var k) = omega arith
some_entry (Bound weights) = omega arith
some_entry (Farkas weights) = omega arith

nodes_within : (nodes : List CertNode) → length nodes ≤ length (flat_map node_entries nodes)
nodes_within [] = omega arith
nodes_within (node ∷ nodes) = omega (arith, some_entry node, nodes_within nodes, length-append (node_entries node) (flat_map node_entries nodes))

pub countable : (text : List ℕ) (o : Outcome) (c : Cert) → Spells text o c → length text < 2 ^ 32 → IsCountable c
countable text o Nothing spells short = tt
countable text o (Ray point direction) spells short = tt
countable text o (Tree nodes) spells short =
    let lines = cert_entries (Tree nodes) in
    let all : length text ≡ length (text_of (entries o (Tree nodes))) = ap length spells.text_is in
    omega (arith, short, all, entries_within (entries o (Tree nodes)), length-append (outcome_entries o) (lines ++ entry.End ∷ []), length-append lines (entry.End ∷ []), nodes_within nodes)
