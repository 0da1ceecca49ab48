-- Each step reads its entry, and leads to a sound stage.
use Rattle.std.proofs.Common.{◌≡◌, refl, sym, ◌∙◌, ap, subst, ℕ, ◌+◌, ◌-◌, ◌==◌, Bool, true, false, List, [], ◌∷◌, ◌++◌, flat_map, Option, Some, None, arith, append_assoc}
use Rattle.std.specs.List.{list_all}
use Rattle.std.specs.Prelude.{◌&&◌, is_some, is_none, option_map, if◌then◌else◌}
use Rattle.std.proofs.Math.Bool.{beq}
use Rattle.std.proofs.lemmas.Bool.{and_parts, and_from, eqb-true, eqb-false}
use Rattle.std.proofs.lemmas.Grind.{flat_map-append}
use Rattle.std.proofs.lemmas.List.{append-nil}
use Rattle.frac128.specs.Fraction.{Fraction}
use Rattle.model_data.specs.declared.solution.Cert.TheVariants.{Nothing, Ray, Tree}
use Rattle.model_data.specs.declared.solution.CertNode.{CertNode}
use Rattle.model_data.specs.declared.solution.CertNode.TheVariants.{Split, Bound, Farkas}
use Rattle.model_data.specs.declared.solution.Outcome.{Outcome}
use Rattle.model_data.specs.declared.solution.Point.{Point}
use Rattle.model_data.specs.declared.solution.WideAt.{WideAt}
use Rattle.solve_defs.specs.Certificates.{are_whole}
use Rattle.solve_defs.specs.declared.status.TheConstants.{NUMERIC}
use Rattle.cert_text.specs.Spelling.{cert_entries, components, is_lawful_node, node_entries, outcome_entries, point_entries}
use Rattle.cert_text.specs.Stages.{begun, begun_cert, begun_tree, behind_nothing, behind_outcome, behind_ray, behind_tree, is_empty, missing_behind, next, no_ray, no_weights, node_begun, with_coordinate, with_point, with_weight}
use Rattle.cert_text.specs.declared.entry.Claim.TheVariants as claim
use Rattle.cert_text.specs.declared.entry.Entry.{Entry}
use Rattle.cert_text.specs.declared.entry.Entry.TheVariants as entry
use Rattle.cert_text.specs.declared.entry.Vector.TheVariants as vector
use Rattle.cert_text.specs.declared.stage.RaySoFar.{RaySoFar}
use Rattle.cert_text.specs.declared.stage.Stage.{Stage}
use Rattle.cert_text.specs.declared.stage.Stage.TheVariants as stage
use Rattle.cert_text.proofs.Basics.{chosen, mapped}
use Rattle.cert_text.proofs.Stages.{HasWide, IsSound, IsStep, are_whole-from, front-all, go_on, left_behind, more-map, node-further, nothing_in, tree-last, tree-more}

same_from_beq : (a b : Bool) → beq a b ≡ true → a ≡ b
same_from_beq true true h = refl
same_from_beq true false h = absurd cc
same_from_beq false true h = absurd cc
same_from_beq false false h = refl

none_there : {A : Type 0} (o : Option A) → is_none o ≡ true → o ≡ None
none_there None h = refl
none_there (Some x) h = absurd cc

-- ---- the outcome

begun-step : (e : Entry) (t : Stage) → begun e ≡ Some t → IsStep stage.Start e t
begun-step (entry.Outcome status pivots nodes work) t h =
    let o : Outcome = record { status = status; pivots = pivots; nodes = nodes; work = work; point = None; wide = None } in
    let is : stage.Outcome o ≡ t = cc in
    subst (IsStep stage.Start (entry.Outcome status pivots nodes work)) is record { reads = refl; sound = λ some. absurd cc }
begun-step _ t h = absurd cc

value-step : (o : Outcome) (x : Fraction) (t : Stage) → (if is_none o.point && is_none o.wide then with_point o (Some record { xs = []; value = x }) else None) ≡ Some t → IsStep (stage.Outcome o) (entry.Value x) t
value-step o x t h =
    let picked = chosen (is_none o.point && is_none o.wide) (stage.Outcome (record o { point = Some record { xs = []; value = x } })) t h in
    let parts = and_parts (is_none o.point) (is_none o.wide) picked.0 in
    let point = none_there o.point parts.0 in
    let wide = none_there o.wide parts.1 in
    subst (IsStep (stage.Outcome o) (entry.Value x)) picked.1 record {
      reads = rw (point, wide) refl;
      sound = λ some. absurd (cc (sym wide));
    }

coordinate-step : (o : Outcome) (x : Fraction) (t : Stage) (point : Option Point) (wide : Option WideAt) → o.point ≡ point → o.wide ≡ wide → with_coordinate o x point wide ≡ Some t → IsStep (stage.Outcome o) (entry.Component vector.X x) t
coordinate-step o x t None wide p w h = absurd cc
coordinate-step o x t (Some point) (Some wide) p w h = absurd cc
coordinate-step o x t (Some point) None p w h =
    let next_point : Point = record point { xs = point.xs ++ x ∷ [] } in
    let is : stage.Outcome (record o { point = Some next_point }) ≡ t = cc in
    let front : List Entry = entry.Outcome o.status o.pivots o.nodes o.work ∷ entry.Value point.value ∷ [] in
    let own = entry.Component vector.X x ∷ [] in
    subst (IsStep (stage.Outcome o) (entry.Component vector.X x)) is record {
      reads = rw (p, w) (ap (λ es. entry.Outcome o.status o.pivots o.nodes o.work ∷ entry.Value point.value ∷ es)
          (append-nil (components vector.X (point.xs ++ x ∷ [])) ∙ (more-map (entry.Component vector.X) point.xs x ∙ ap (λ es. es ++ own) (sym (append-nil (components vector.X point.xs))))));
      sound = λ some. absurd (cc (sym w));
    }

wide-step : (o : Outcome) (w : WideAt) (t : Stage) → (if is_none o.wide && (o.status == NUMERIC) then Some (stage.Outcome (record o { wide = Some w })) else None) ≡ Some t → IsStep (stage.Outcome o) (entry.Wide w) t
wide-step o w t h =
    let picked = chosen (is_none o.wide && (o.status == NUMERIC)) (stage.Outcome (record o { wide = Some w })) t h in
    let parts = and_parts (is_none o.wide) (o.status == NUMERIC) picked.0 in
    let wide = none_there o.wide parts.0 in
    subst (IsStep (stage.Outcome o) (entry.Wide w)) picked.1 record {
      reads = rw wide (ap (λ es. entry.Outcome o.status o.pivots o.nodes o.work ∷ (es ++ entry.Wide w ∷ [])) (sym (append-nil (point_entries o.point))));
      sound = λ some. parts.1;
    }

-- ---- the first entry of a certificate

first_node : (o : Outcome) (e : Entry) (node : CertNode) → HasWide o → node_entries node ≡ e ∷ [] → is_lawful_node node ≡ true → IsStep (stage.Outcome o) e (stage.Tree o (missing_behind 1 node) [] node)
unfolding go_on left_behind
first_node o e node wide reads lawful = record {
  reads = ap (λ es. outcome_entries o ++ es) (append-nil (node_entries node) ∙ reads);
  sound = (wide, record { stand = refl; missing_is = refl; lawful = and_from (is_lawful_node node) true lawful refl });
}

tree-begun : (o : Outcome) (e : Entry) (t : Stage) → HasWide o → begun_tree o e ≡ Some t → IsStep (stage.Outcome o) e t
tree-begun o (entry.Split var k) t wide h =
    let is : stage.Tree o 2 [] (Split var k) ≡ t = cc in
    subst (IsStep (stage.Outcome o) (entry.Split var k)) is (first_node o (entry.Split var k) (Split var k) wide refl refl)
tree-begun o (entry.Leaf claim.Bound) t wide h =
    let is : stage.Tree o 0 [] (Bound no_weights) ≡ t = cc in
    subst (IsStep (stage.Outcome o) (entry.Leaf claim.Bound)) is (first_node o (entry.Leaf claim.Bound) (Bound no_weights) wide refl refl)
tree-begun o (entry.Leaf claim.Farkas) t wide h =
    let is : stage.Tree o 0 [] (Farkas no_weights) ≡ t = cc in
    subst (IsStep (stage.Outcome o) (entry.Leaf claim.Farkas)) is (first_node o (entry.Leaf claim.Farkas) (Farkas no_weights) wide refl refl)
tree-begun o _ t wide h = absurd cc

cert-begun : (o : Outcome) (e : Entry) (t : Stage) → HasWide o → begun_cert o e ≡ Some t → IsStep (stage.Outcome o) e t
cert-begun o entry.Nothing t wide h =
    let is : stage.Nothing o ≡ t = cc in
    subst (IsStep (stage.Outcome o) entry.Nothing) is record { reads = refl; sound = wide }
cert-begun o entry.Ray t wide h =
    let is : stage.Ray o no_ray ≡ t = cc in
    subst (IsStep (stage.Outcome o) entry.Ray) is record { reads = refl; sound = wide }
cert-begun o (entry.Outcome a b c d) t wide h = tree-begun o (entry.Outcome a b c d) t wide h
cert-begun o (entry.Value x) t wide h = tree-begun o (entry.Value x) t wide h
cert-begun o (entry.Component v x) t wide h = tree-begun o (entry.Component v x) t wide h
cert-begun o (entry.Wide w) t wide h = tree-begun o (entry.Wide w) t wide h
cert-begun o (entry.Split var k) t wide h = tree-begun o (entry.Split var k) t wide h
cert-begun o (entry.Leaf c) t wide h = tree-begun o (entry.Leaf c) t wide h
cert-begun o (entry.Weight s w) t wide h = tree-begun o (entry.Weight s w) t wide h
cert-begun o entry.End t wide h = tree-begun o entry.End t wide h

allowed-begun : (o : Outcome) (e : Entry) (t : Stage) (b : Bool) → beq (is_some o.wide) (o.status == NUMERIC) ≡ b → (if b then begun_cert o e else None) ≡ Some t → IsStep (stage.Outcome o) e t
allowed-begun o e t true wide h = cert-begun o e t (same_from_beq (is_some o.wide) (o.status == NUMERIC) wide) h
allowed-begun o e t false wide h = absurd cc

outcome-step : (o : Outcome) (e : Entry) (t : Stage) → behind_outcome o e ≡ Some t → IsStep (stage.Outcome o) e t
outcome-step o (entry.Value x) t h = value-step o x t h
outcome-step o (entry.Component vector.X x) t h = coordinate-step o x t o.point o.wide refl refl h
outcome-step o (entry.Wide w) t h = wide-step o w t h
outcome-step o (entry.Outcome a b c d) t h = allowed-begun o (entry.Outcome a b c d) t (beq (is_some o.wide) (o.status == NUMERIC)) refl h
outcome-step o (entry.Component vector.P x) t h = allowed-begun o (entry.Component vector.P x) t (beq (is_some o.wide) (o.status == NUMERIC)) refl h
outcome-step o (entry.Component vector.D x) t h = allowed-begun o (entry.Component vector.D x) t (beq (is_some o.wide) (o.status == NUMERIC)) refl h
outcome-step o entry.Nothing t h = allowed-begun o entry.Nothing t (beq (is_some o.wide) (o.status == NUMERIC)) refl h
outcome-step o entry.Ray t h = allowed-begun o entry.Ray t (beq (is_some o.wide) (o.status == NUMERIC)) refl h
outcome-step o (entry.Split var k) t h = allowed-begun o (entry.Split var k) t (beq (is_some o.wide) (o.status == NUMERIC)) refl h
outcome-step o (entry.Leaf c) t h = allowed-begun o (entry.Leaf c) t (beq (is_some o.wide) (o.status == NUMERIC)) refl h
outcome-step o (entry.Weight s w) t h = allowed-begun o (entry.Weight s w) t (beq (is_some o.wide) (o.status == NUMERIC)) refl h
outcome-step o entry.End t h = allowed-begun o entry.End t (beq (is_some o.wide) (o.status == NUMERIC)) refl h

-- ---- a certificate

-- the last entry of all
end-reads : (o : Outcome) (es : List Entry) → outcome_entries o ++ (es ++ entry.End ∷ []) ≡ (outcome_entries o ++ es) ++ entry.End ∷ []
end-reads o es = sym (append_assoc (outcome_entries o) es (entry.End ∷ []))

nothing-step : (o : Outcome) (e : Entry) (t : Stage) → HasWide o → behind_nothing o e ≡ Some t → IsStep (stage.Nothing o) e t
nothing-step o entry.End t wide h =
    let is : stage.Whole record { outcome = o; cert = Nothing } ≡ t = cc in
    subst (IsStep (stage.Nothing o) entry.End) is record { reads = end-reads o (entry.Nothing ∷ []); sound = record { wide = wide; cert = refl } }
nothing-step o _ t wide h = absurd cc

ray-step : (o : Outcome) (ray : RaySoFar) (e : Entry) (t : Stage) → HasWide o → behind_ray o ray e ≡ Some t → IsStep (stage.Ray o ray) e t
ray-step o ray (entry.Component vector.P x) t wide h =
    let picked = chosen (is_empty ray.direction) (stage.Ray o (record ray { point = ray.point ++ x ∷ [] })) t h in
    let none = nothing_in ray.direction picked.0 in
    let own = entry.Component vector.P x ∷ [] in
    subst (IsStep (stage.Ray o ray) (entry.Component vector.P x)) picked.1 record {
      reads = rw none (ap (λ es. outcome_entries o ++ (entry.Ray ∷ es)) (append-nil (components vector.P (ray.point ++ x ∷ [])) ∙ (more-map (entry.Component vector.P) ray.point x ∙ ap (λ es. es ++ own) (sym (append-nil (components vector.P ray.point))))) ∙ sym (append_assoc (outcome_entries o) (entry.Ray ∷ (components vector.P ray.point ++ [])) own));
      sound = wide;
    }
ray-step o ray (entry.Component vector.D x) t wide h =
    let is : stage.Ray o (record ray { direction = ray.direction ++ x ∷ [] }) ≡ t = cc in
    let front = components vector.P ray.point in
    let back = components vector.D ray.direction in
    let own = entry.Component vector.D x ∷ [] in
    subst (IsStep (stage.Ray o ray) (entry.Component vector.D x)) is record {
      reads = ap (λ es. outcome_entries o ++ (entry.Ray ∷ (front ++ es))) (more-map (entry.Component vector.D) ray.direction x)
          ∙ (ap (λ es. outcome_entries o ++ (entry.Ray ∷ es)) (sym (append_assoc front back own)) ∙ sym (append_assoc (outcome_entries o) (entry.Ray ∷ (front ++ back)) own));
      sound = wide;
    }
ray-step o ray entry.End t wide h =
    let is : stage.Whole record { outcome = o; cert = Ray ray.point ray.direction } ≡ t = cc in
    subst (IsStep (stage.Ray o ray) entry.End) is record { reads = end-reads o (cert_entries (Ray ray.point ray.direction)); sound = record { wide = wide; cert = refl } }
ray-step o ray _ t wide h = absurd cc

-- the entries of nodes with one more, or with another last one
nodes-more : (nodes : List CertNode) (node : CertNode) (es : List Entry) → node_entries node ≡ es → flat_map node_entries (nodes ++ node ∷ []) ≡ flat_map node_entries nodes ++ es
nodes-more nodes node es h = flat_map-append node_entries nodes (node ∷ []) ∙ ap (λ xs. flat_map node_entries nodes ++ xs) (append-nil (node_entries node) ∙ h)

weight-reads : (o : Outcome) (nodes : List CertNode) (a b : CertNode) (e : Entry) → node_entries b ≡ node_entries a ++ e ∷ []
    → outcome_entries o ++ flat_map node_entries (nodes ++ b ∷ []) ≡ (outcome_entries o ++ flat_map node_entries (nodes ++ a ∷ [])) ++ e ∷ []
weight-reads o nodes a b e h =
    let front = flat_map node_entries nodes in
    ap (λ es. outcome_entries o ++ es) (nodes-more nodes b (node_entries a ++ e ∷ []) h ∙ (sym (append_assoc front (node_entries a) (e ∷ [])) ∙ ap (λ es. es ++ e ∷ []) (sym (nodes-more nodes a (node_entries a) refl))))
    ∙ sym (append_assoc (outcome_entries o) (flat_map node_entries (nodes ++ a ∷ [])) (e ∷ []))

node-reads : (o : Outcome) (nodes : List CertNode) (node : CertNode) (e : Entry) → node_entries node ≡ e ∷ []
    → outcome_entries o ++ flat_map node_entries (nodes ++ node ∷ []) ≡ (outcome_entries o ++ flat_map node_entries nodes) ++ e ∷ []
node-reads o nodes node e h = ap (λ es. outcome_entries o ++ es) (nodes-more nodes node (e ∷ []) h) ∙ sym (append_assoc (outcome_entries o) (flat_map node_entries nodes) (e ∷ []))

-- another node
begins-step : (o : Outcome) (missing : ℕ) (nodes : List CertNode) (last node : CertNode) (e : Entry) → IsSound (stage.Tree o missing nodes last) → (missing == 0) ≡ false → node_entries node ≡ e ∷ [] → is_lawful_node node ≡ true
    → IsStep (stage.Tree o missing nodes last) e (stage.Tree o (missing_behind missing node) (nodes ++ last ∷ []) node)
begins-step o missing nodes last node e sound some reads lawful =
    let none : missing ≡ 0 → ⊥ = eqb-false missing 0 some in
    record {
      reads = node-reads o (nodes ++ last ∷ []) node e reads;
      sound = (sound.0, tree-more missing (nodes ++ last ∷ []) node sound.1 (omega (arith, none)) lawful);
    }

another-step : (o : Outcome) (missing : ℕ) (nodes : List CertNode) (last : CertNode) (e : Entry) (t : Stage) (b : Bool) → (missing == 0) ≡ b → IsSound (stage.Tree o missing nodes last)
    → (if b then None else option_map (λ node. stage.Tree o (missing_behind missing node) (nodes ++ last ∷ []) node) (node_begun e)) ≡ Some t → IsStep (stage.Tree o missing nodes last) e t
another-step o missing nodes last e t true some sound h = absurd cc
another-step o missing nodes last (entry.Split var k) t false some sound h =
    let is : stage.Tree o (missing + 1) (nodes ++ last ∷ []) (Split var k) ≡ t = cc in
    subst (IsStep (stage.Tree o missing nodes last) (entry.Split var k)) is (begins-step o missing nodes last (Split var k) (entry.Split var k) sound some refl refl)
another-step o missing nodes last (entry.Leaf claim.Bound) t false some sound h =
    let is : stage.Tree o (missing - 1) (nodes ++ last ∷ []) (Bound no_weights) ≡ t = cc in
    subst (IsStep (stage.Tree o missing nodes last) (entry.Leaf claim.Bound)) is (begins-step o missing nodes last (Bound no_weights) (entry.Leaf claim.Bound) sound some refl refl)
another-step o missing nodes last (entry.Leaf claim.Farkas) t false some sound h =
    let is : stage.Tree o (missing - 1) (nodes ++ last ∷ []) (Farkas no_weights) ≡ t = cc in
    subst (IsStep (stage.Tree o missing nodes last) (entry.Leaf claim.Farkas)) is (begins-step o missing nodes last (Farkas no_weights) (entry.Leaf claim.Farkas) sound some refl refl)
another-step o missing nodes last _ t false some sound h = absurd cc

tree-step : (o : Outcome) (missing : ℕ) (nodes : List CertNode) (last : CertNode) (e : Entry) (t : Stage) → IsSound (stage.Tree o missing nodes last) → behind_tree o missing nodes last e ≡ Some t → IsStep (stage.Tree o missing nodes last) e t
tree-step o missing nodes last (entry.Weight s w) t sound h =
    let made = mapped (with_weight last s w) (stage.Tree o missing nodes) t h in
    let all = (front-all is_lawful_node nodes last sound.1.lawful).1 in
    let is = node-further last s w made.0 all made.1 in
    subst (IsStep (stage.Tree o missing nodes last) (entry.Weight s w)) made.2 record {
      reads = weight-reads o nodes last made.0 (entry.Weight s w) is.reads;
      sound = (sound.0, tree-last missing nodes last made.0 is.same is.lawful sound.1);
    }
tree-step o missing nodes last entry.End t sound h =
    let tree = nodes ++ last ∷ [] in
    let picked = chosen (missing == 0) (stage.Whole record { outcome = o; cert = Tree tree }) t h in
    let none : left_behind 1 tree ≡ 0 = sound.1.missing_is ∙ eqb-true missing 0 picked.0 in
    subst (IsStep (stage.Tree o missing nodes last) entry.End) picked.1 record {
      reads = end-reads o (flat_map node_entries tree);
      sound = record { wide = sound.0; cert = and_from (are_whole 1 tree) (list_all is_lawful_node tree) (are_whole-from 1 tree sound.1.stand none) sound.1.lawful };
    }
tree-step o missing nodes last (entry.Outcome a b c d) t sound h = another-step o missing nodes last (entry.Outcome a b c d) t (missing == 0) refl sound h
tree-step o missing nodes last (entry.Value x) t sound h = another-step o missing nodes last (entry.Value x) t (missing == 0) refl sound h
tree-step o missing nodes last (entry.Component v x) t sound h = another-step o missing nodes last (entry.Component v x) t (missing == 0) refl sound h
tree-step o missing nodes last (entry.Wide w) t sound h = another-step o missing nodes last (entry.Wide w) t (missing == 0) refl sound h
tree-step o missing nodes last entry.Nothing t sound h = another-step o missing nodes last entry.Nothing t (missing == 0) refl sound h
tree-step o missing nodes last entry.Ray t sound h = another-step o missing nodes last entry.Ray t (missing == 0) refl sound h
tree-step o missing nodes last (entry.Split var k) t sound h = another-step o missing nodes last (entry.Split var k) t (missing == 0) refl sound h
tree-step o missing nodes last (entry.Leaf c) t sound h = another-step o missing nodes last (entry.Leaf c) t (missing == 0) refl sound h

pub step : (s : Stage) (e : Entry) (t : Stage) → IsSound s → next s e ≡ Some t → IsStep s e t
step stage.Start e t sound h = begun-step e t h
step (stage.Outcome o) e t sound h = outcome-step o e t h
step (stage.Nothing o) e t sound h = nothing-step o e t sound h
step (stage.Ray o ray) e t sound h = ray-step o ray e t sound h
step (stage.Tree o missing nodes last) e t sound h = tree-step o missing nodes last e t sound h
step (stage.Whole proof) e t sound h = absurd cc
