-- The entries of what can be written lead through all stages.
use Rattle.std.proofs.Common.{◌≡◌, refl, sym, ◌∙◌, ap, subst, ℕ, zero, suc, ◌+◌, ◌-◌, ◌==◌, Bool, true, false, List, [], ◌∷◌, ◌++◌, map, flat_map, Option, Some, None, arith, append_assoc}
use Rattle.std.specs.Prelude.{◌&&◌, is_some, if◌then◌else◌}
use Rattle.std.specs.List.{list_all}
use Rattle.std.proofs.Math.Bool.{beq}
use Rattle.std.proofs.lemmas.Bool.{and_parts, ne_eqb}
use Rattle.std.proofs.lemmas.List.{append-nil}
use Rattle.frac128.specs.Fraction.{Fraction}
use Rattle.model_data.specs.declared.solution.Cert.{Cert}
use Rattle.model_data.specs.declared.solution.Cert.TheVariants.{Nothing, Ray, Tree}
use Rattle.model_data.specs.declared.solution.CertNode.{CertNode}
use Rattle.model_data.specs.declared.solution.CertNode.TheVariants.{Split, Bound, Farkas}
use Rattle.model_data.specs.declared.solution.Outcome.{Outcome}
use Rattle.model_data.specs.declared.solution.Point.{Point}
use Rattle.model_data.specs.declared.solution.Weight.{Weight}
use Rattle.model_data.specs.declared.solution.Weights.{Weights}
use Rattle.model_data.specs.declared.solution.WideAt.{WideAt}
use Rattle.solve_defs.specs.Certificates.{are_whole}
use Rattle.solve_defs.specs.declared.status.TheConstants.{NUMERIC}
use Rattle.cert_text.specs.Reading.{◌>>=◌}
use Rattle.cert_text.specs.Spelling.{IsWritable, are_lawful, are_rising, cert_entries, components, entries, is_lawful_node, node_entries, outcome_entries, point_entries, weight_entries, wide_entries}
use Rattle.cert_text.specs.Stages.{last_place, may_follow, missing_behind, next, no_weights}
use Rattle.cert_text.specs.declared.entry.Claim.{Claim}
use Rattle.cert_text.specs.declared.entry.Claim.TheVariants as claim
use Rattle.cert_text.specs.declared.entry.Entry.{Entry}
use Rattle.cert_text.specs.declared.entry.Entry.TheVariants as entry
use Rattle.cert_text.specs.declared.entry.Side.TheVariants as side
use Rattle.cert_text.specs.declared.entry.Vector.TheVariants as vector
use Rattle.cert_text.specs.declared.stage.Stage.{Stage}
use Rattle.cert_text.specs.declared.stage.Stage.TheVariants as stage
use Rattle.cert_text.proofs.Stages.{HasWide, IsSound, last_place-more, read_so_far}
use Rattle.cert_text.proofs.Steps.{step}

-- the stage behind entries
unfoldable pub run : Stage → List Entry → Option Stage
run s [] = Some s
run s (e ∷ es) = next s e >>= λ t. run t es

stepped : (s t : Stage) (e : Entry) (es : List Entry) → next s e ≡ Some t → run s (e ∷ es) ≡ run t es
unfolding run
stepped s t e es h = ap (λ o. o >>= λ u. run u es) h

over : (s : Stage) → run s [] ≡ Some s
unfolding run
over s = refl

-- a run reads its entries, and ends at a sound stage
pub record IsRun (s : Stage) (es : List Entry) (t : Stage) : Type 0 where
  pub reads : read_so_far t ≡ read_so_far s ++ es
  pub sound : IsSound t

pub ran : (s : Stage) (es : List Entry) (t : Stage) → IsSound s → run s es ≡ Some t → IsRun s es t
unfolding run
ran s [] t sound h =
    let is : s ≡ t = cc in
    subst (IsRun s []) is record { reads = sym (append-nil (read_so_far s)); sound = sound }
ran s (e ∷ es) t sound h = by_next (next s e) refl h (λ u one rest. ran u es t one rest)
  where
    by_next : (o : Option Stage) → next s e ≡ o → (o >>= λ u. run u es) ≡ Some t → ((u : Stage) → IsSound u → run u es ≡ Some t → IsRun u es t) → IsRun s (e ∷ es) t
    by_next None first h later = absurd cc
    by_next (Some u) first h later =
        let one = step s e u sound first in
        let rest = later u one.sound h in
        record { reads = rest.reads ∙ (ap (λ xs. xs ++ es) one.reads ∙ append_assoc (read_so_far s) (e ∷ []) es); sound = rest.sound }

-- ---- the outcome

with_parts : Outcome → Option Point → Option WideAt → Outcome
with_parts o point wide = record o { point = point; wide = wide }

coordinates-run : (o : Outcome) (value : Fraction) (before xs : List Fraction) (es : List Entry)
    → run (stage.Outcome (with_parts o (Some record { xs = before; value = value }) None)) (components vector.X xs ++ es) ≡ run (stage.Outcome (with_parts o (Some record { xs = before ++ xs; value = value }) None)) es
unfolding run with_parts
coordinates-run o value before [] es = ap (λ ys. run (stage.Outcome (with_parts o (Some record { xs = ys; value = value }) None)) es) (sym (append-nil before))
coordinates-run o value before (x ∷ xs) es =
    coordinates-run o value (before ++ x ∷ []) xs es ∙ ap (λ ys. run (stage.Outcome (with_parts o (Some record { xs = ys; value = value }) None)) es) (append_assoc before (x ∷ []) xs)

point-run : (o : Outcome) (point : Option Point) (es : List Entry) → run (stage.Outcome (with_parts o None None)) (point_entries point ++ es) ≡ run (stage.Outcome (with_parts o point None)) es
unfolding run with_parts
point-run o None es = refl
point-run o (Some point) es = coordinates-run o point.value [] point.xs es

wide-run : (o : Outcome) (point : Option Point) (wide : Option WideAt) (es : List Entry) → is_some wide ≡ (o.status == NUMERIC) → run (stage.Outcome (with_parts o point None)) (wide_entries wide ++ es) ≡ run (stage.Outcome (with_parts o point wide)) es
unfolding run with_parts
wide-run o point None es h = refl
wide-run o point (Some wide) es h = ap (λ b. (if b then Some (stage.Outcome (with_parts o point (Some wide))) else None) >>= λ t. run t es) (sym h)

outcome-run : (o : Outcome) (es : List Entry) → HasWide o → run stage.Start (outcome_entries o ++ es) ≡ run (stage.Outcome o) es
unfolding run with_parts
outcome-run o es h =
    ap (run (stage.Outcome (with_parts o None None))) (append_assoc (point_entries o.point) (wide_entries o.wide) es)
    ∙ (point-run o o.point (wide_entries o.wide ++ es) ∙ wide-run o o.point o.wide es h)

-- ---- a ray

points-run : (o : Outcome) (before xs : List Fraction) (es : List Entry) → run (stage.Ray o record { point = before; direction = [] }) (components vector.P xs ++ es) ≡ run (stage.Ray o record { point = before ++ xs; direction = [] }) es
unfolding run
points-run o before [] es = ap (λ ys. run (stage.Ray o record { point = ys; direction = [] }) es) (sym (append-nil before))
points-run o before (x ∷ xs) es = points-run o (before ++ x ∷ []) xs es ∙ ap (λ ys. run (stage.Ray o record { point = ys; direction = [] }) es) (append_assoc before (x ∷ []) xs)

directions-run : (o : Outcome) (point before xs : List Fraction) (es : List Entry) → run (stage.Ray o record { point = point; direction = before }) (components vector.D xs ++ es) ≡ run (stage.Ray o record { point = point; direction = before ++ xs }) es
unfolding run
directions-run o point before [] es = ap (λ ys. run (stage.Ray o record { point = point; direction = ys }) es) (sym (append-nil before))
directions-run o point before (x ∷ xs) es = directions-run o point (before ++ x ∷ []) xs es ∙ ap (λ ys. run (stage.Ray o record { point = point; direction = ys }) es) (append_assoc before (x ∷ []) xs)

-- ---- a node

leaf_of : Claim → Weights → CertNode
leaf_of claim.Bound ws = Bound ws
leaf_of claim.Farkas ws = Farkas ws

abbrev weights : List Weight → List Weight → List Weight → Weights
weights rows lows ups = record { rows = rows; lows = lows; ups = ups }

-- one weight more
row-next : (c : Claim) (o : Outcome) (m : ℕ) (done : List CertNode) (rows : List Weight) (w : Weight) → may_follow rows w ≡ true
    → next (stage.Tree o m done (leaf_of c (weights rows [] []))) (entry.Weight side.Row w) ≡ Some (stage.Tree o m done (leaf_of c (weights (rows ++ w ∷ []) [] [])))
unfolding leaf_of
row-next claim.Bound o m done rows w h = rw h refl
row-next claim.Farkas o m done rows w h = rw h refl

low-next : (c : Claim) (o : Outcome) (m : ℕ) (done : List CertNode) (rows lows : List Weight) (w : Weight) → may_follow lows w ≡ true
    → next (stage.Tree o m done (leaf_of c (weights rows lows []))) (entry.Weight side.Lower w) ≡ Some (stage.Tree o m done (leaf_of c (weights rows (lows ++ w ∷ []) [])))
unfolding leaf_of
low-next claim.Bound o m done rows lows w h = rw h refl
low-next claim.Farkas o m done rows lows w h = rw h refl

up-next : (c : Claim) (o : Outcome) (m : ℕ) (done : List CertNode) (rows lows ups : List Weight) (w : Weight) → may_follow ups w ≡ true
    → next (stage.Tree o m done (leaf_of c (weights rows lows ups))) (entry.Weight side.Upper w) ≡ Some (stage.Tree o m done (leaf_of c (weights rows lows (ups ++ w ∷ []))))
unfolding leaf_of
up-next claim.Bound o m done rows lows ups w h = rw h refl
up-next claim.Farkas o m done rows lows ups w h = rw h refl

-- numbers that rise from the last one on
record IsOneMore (before : List Weight) (w : Weight) (ws : List Weight) : Type 0 where
  follows : may_follow before w ≡ true
  rest : are_rising (last_place (before ++ w ∷ [])) ws ≡ true

one_more : (before : List Weight) (w : Weight) (ws : List Weight) → are_rising (last_place before) (w ∷ ws) ≡ true → IsOneMore before w ws
one_more before w ws h =
    let parts = and_parts (may_follow before w) (are_rising w.place ws) h in
    record { follows = parts.0; rest = ap (λ n. are_rising n ws) (last_place-more before w) ∙ parts.1 }

rows-run : (c : Claim) (o : Outcome) (m : ℕ) (done : List CertNode) (before ws : List Weight) (es : List Entry) → are_rising (last_place before) ws ≡ true
    → run (stage.Tree o m done (leaf_of c (weights before [] []))) (map (entry.Weight side.Row) ws ++ es) ≡ run (stage.Tree o m done (leaf_of c (weights (before ++ ws) [] []))) es
rows-run c o m done before [] es h = ap (λ rows. run (stage.Tree o m done (leaf_of c (weights rows [] []))) es) (sym (append-nil before))
rows-run c o m done before (w ∷ ws) es h =
    let more = one_more before w ws h in
    stepped (stage.Tree o m done (leaf_of c (weights before [] []))) (stage.Tree o m done (leaf_of c (weights (before ++ w ∷ []) [] []))) (entry.Weight side.Row w) (map (entry.Weight side.Row) ws ++ es) (row-next c o m done before w more.follows)
    ∙ (rows-run c o m done (before ++ w ∷ []) ws es more.rest ∙ ap (λ rows. run (stage.Tree o m done (leaf_of c (weights rows [] []))) es) (append_assoc before (w ∷ []) ws))

lows-run : (c : Claim) (o : Outcome) (m : ℕ) (done : List CertNode) (rows before ws : List Weight) (es : List Entry) → are_rising (last_place before) ws ≡ true
    → run (stage.Tree o m done (leaf_of c (weights rows before []))) (map (entry.Weight side.Lower) ws ++ es) ≡ run (stage.Tree o m done (leaf_of c (weights rows (before ++ ws) []))) es
lows-run c o m done rows before [] es h = ap (λ lows. run (stage.Tree o m done (leaf_of c (weights rows lows []))) es) (sym (append-nil before))
lows-run c o m done rows before (w ∷ ws) es h =
    let more = one_more before w ws h in
    stepped (stage.Tree o m done (leaf_of c (weights rows before []))) (stage.Tree o m done (leaf_of c (weights rows (before ++ w ∷ []) []))) (entry.Weight side.Lower w) (map (entry.Weight side.Lower) ws ++ es) (low-next c o m done rows before w more.follows)
    ∙ (lows-run c o m done rows (before ++ w ∷ []) ws es more.rest ∙ ap (λ lows. run (stage.Tree o m done (leaf_of c (weights rows lows []))) es) (append_assoc before (w ∷ []) ws))

ups-run : (c : Claim) (o : Outcome) (m : ℕ) (done : List CertNode) (rows lows before ws : List Weight) (es : List Entry) → are_rising (last_place before) ws ≡ true
    → run (stage.Tree o m done (leaf_of c (weights rows lows before))) (map (entry.Weight side.Upper) ws ++ es) ≡ run (stage.Tree o m done (leaf_of c (weights rows lows (before ++ ws)))) es
ups-run c o m done rows lows before [] es h = ap (λ ups. run (stage.Tree o m done (leaf_of c (weights rows lows ups))) es) (sym (append-nil before))
ups-run c o m done rows lows before (w ∷ ws) es h =
    let more = one_more before w ws h in
    stepped (stage.Tree o m done (leaf_of c (weights rows lows before))) (stage.Tree o m done (leaf_of c (weights rows lows (before ++ w ∷ [])))) (entry.Weight side.Upper w) (map (entry.Weight side.Upper) ws ++ es) (up-next c o m done rows lows before w more.follows)
    ∙ (ups-run c o m done rows lows (before ++ w ∷ []) ws es more.rest ∙ ap (λ ups. run (stage.Tree o m done (leaf_of c (weights rows lows ups))) es) (append_assoc before (w ∷ []) ws))

leaf-run : (c : Claim) (o : Outcome) (m : ℕ) (done : List CertNode) (ws : Weights) (es : List Entry) → are_lawful ws ≡ true
    → run (stage.Tree o m done (leaf_of c no_weights)) (weight_entries ws ++ es) ≡ run (stage.Tree o m done (leaf_of c ws)) es
leaf-run c o m done ws es h =
    let are = and_parts (are_rising 0 ws.rows && are_rising 0 ws.lows) (are_rising 0 ws.ups) h in
    let two = and_parts (are_rising 0 ws.rows) (are_rising 0 ws.lows) are.0 in
    let rows = map (entry.Weight side.Row) ws.rows in
    let lows = map (entry.Weight side.Lower) ws.lows in
    let ups = map (entry.Weight side.Upper) ws.ups in
    ap (run (stage.Tree o m done (leaf_of c no_weights))) (append_assoc rows (lows ++ ups) es ∙ ap (λ xs. rows ++ xs) (append_assoc lows ups es))
    ∙ (rows-run c o m done [] ws.rows (lows ++ (ups ++ es)) two.0
    ∙ (lows-run c o m done ws.rows [] ws.lows (ups ++ es) two.1
    ∙ ups-run c o m done ws.rows ws.lows [] ws.ups es are.1))

-- how a node begins
first_entry : CertNode → Entry
first_entry (Split var k) = entry.Split var k
first_entry (Bound ws) = entry.Leaf claim.Bound
first_entry (Farkas ws) = entry.Leaf claim.Farkas

begun_node : CertNode → CertNode
begun_node (Split var k) = Split var k
begun_node (Bound ws) = Bound no_weights
begun_node (Farkas ws) = Farkas no_weights

node-run : (s : Stage) (o : Outcome) (m : ℕ) (done : List CertNode) (node : CertNode) (es : List Entry) → is_lawful_node node ≡ true → next s (first_entry node) ≡ Some (stage.Tree o m done (begun_node node))
    → run s (node_entries node ++ es) ≡ run (stage.Tree o m done node) es
unfolding first_entry begun_node leaf_of
node-run s o m done (Split var k) es lawful h = stepped s (stage.Tree o m done (Split var k)) (entry.Split var k) es h
node-run s o m done (Bound ws) es lawful h = stepped s (stage.Tree o m done (Bound no_weights)) (entry.Leaf claim.Bound) (weight_entries ws ++ es) h ∙ leaf-run claim.Bound o m done ws es lawful
node-run s o m done (Farkas ws) es lawful h = stepped s (stage.Tree o m done (Farkas no_weights)) (entry.Leaf claim.Farkas) (weight_entries ws ++ es) h ∙ leaf-run claim.Farkas o m done ws es lawful

-- ---- a tree

another : (o : Outcome) (m : ℕ) (done : List CertNode) (last node : CertNode) → next (stage.Tree o (suc m) done last) (first_entry node) ≡ Some (stage.Tree o (missing_behind (suc m) node) (done ++ last ∷ []) (begun_node node))
unfolding first_entry begun_node
another o m done last (Split var k) = let some : (suc m == 0) ≡ false = ne_eqb (suc m) 0 (λ e. omega (arith, e)) in rw some refl
another o m done last (Bound ws) = let some : (suc m == 0) ≡ false = ne_eqb (suc m) 0 (λ e. omega (arith, e)) in rw some refl
another o m done last (Farkas ws) = let some : (suc m == 0) ≡ false = ne_eqb (suc m) 0 (λ e. omega (arith, e)) in rw some refl

whole_behind : (m : ℕ) (node : CertNode) (nodes : List CertNode) → are_whole (suc m) (node ∷ nodes) ≡ true → are_whole (missing_behind (suc m) node) nodes ≡ true
whole_behind m (Split var k) nodes h = let e : suc m + 1 ≡ suc (suc m) = omega arith in ap (λ n. are_whole n nodes) e ∙ h
whole_behind m (Bound ws) nodes h = let e : suc m - 1 ≡ m = omega arith in ap (λ n. are_whole n nodes) e ∙ h
whole_behind m (Farkas ws) nodes h = let e : suc m - 1 ≡ m = omega arith in ap (λ n. are_whole n nodes) e ∙ h

tree-run : (o : Outcome) (m : ℕ) (done : List CertNode) (last : CertNode) (nodes : List CertNode) → are_whole m nodes ≡ true → list_all is_lawful_node nodes ≡ true
    → run (stage.Tree o m done last) (flat_map node_entries nodes ++ entry.End ∷ []) ≡ Some (stage.Whole record { outcome = o; cert = Tree ((done ++ last ∷ []) ++ nodes) })
tree-run o m done last [] whole lawful =
    stepped (stage.Tree o m done last) (stage.Whole record { outcome = o; cert = Tree (done ++ last ∷ []) }) entry.End [] (ap (λ b. if b then Some (stage.Whole record { outcome = o; cert = Tree (done ++ last ∷ []) }) else None) whole)
    ∙ (over (stage.Whole record { outcome = o; cert = Tree (done ++ last ∷ []) }) ∙ ap (λ ns. Some (stage.Whole record { outcome = o; cert = Tree ns })) (sym (append-nil (done ++ last ∷ []))))
tree-run o zero done last (node ∷ nodes) whole lawful = absurd cc
tree-run o (suc m) done last (node ∷ nodes) whole lawful =
    let parts = and_parts (is_lawful_node node) (list_all is_lawful_node nodes) lawful in
    ap (run (stage.Tree o (suc m) done last)) (append_assoc (node_entries node) (flat_map node_entries nodes) (entry.End ∷ []))
    ∙ (node-run (stage.Tree o (suc m) done last) o (missing_behind (suc m) node) (done ++ last ∷ []) node (flat_map node_entries nodes ++ entry.End ∷ []) parts.0 (another o m done last node)
    ∙ (tree-run o (missing_behind (suc m) node) (done ++ last ∷ []) node nodes (whole_behind m node nodes whole) parts.1
    ∙ ap (λ ns. Some (stage.Whole record { outcome = o; cert = Tree ns })) (append_assoc (done ++ last ∷ []) (node ∷ []) nodes)))

-- ---- all of it

beq_same : (a b : Bool) → a ≡ b → beq a b ≡ true
beq_same true true h = refl
beq_same true false h = absurd cc
beq_same false true h = absurd cc
beq_same false false h = refl

first : (o : Outcome) (node : CertNode) → HasWide o → next (stage.Outcome o) (first_entry node) ≡ Some (stage.Tree o (missing_behind 1 node) [] (begun_node node))
unfolding first_entry begun_node
first o (Split var k) wide = rw (beq_same (is_some o.wide) (o.status == NUMERIC) wide) refl
first o (Bound ws) wide = rw (beq_same (is_some o.wide) (o.status == NUMERIC) wide) refl
first o (Farkas ws) wide = rw (beq_same (is_some o.wide) (o.status == NUMERIC) wide) refl

cert-run : (o : Outcome) (c : Cert) → IsWritable o c → run (stage.Outcome o) (cert_entries c ++ entry.End ∷ []) ≡ Some (stage.Whole record { outcome = o; cert = c })
unfolding run
cert-run o Nothing h = rw (beq_same (is_some o.wide) (o.status == NUMERIC) h.wide) refl
cert-run o (Ray point direction) h =
    stepped (stage.Outcome o) (stage.Ray o record { point = []; direction = [] }) entry.Ray ((components vector.P point ++ components vector.D direction) ++ entry.End ∷ []) (rw (beq_same (is_some o.wide) (o.status == NUMERIC) h.wide) refl)
    ∙ (ap (run (stage.Ray o record { point = []; direction = [] })) (append_assoc (components vector.P point) (components vector.D direction) (entry.End ∷ []))
    ∙ (points-run o [] point (components vector.D direction ++ entry.End ∷ []) ∙ directions-run o point [] direction (entry.End ∷ [])))
cert-run o (Tree []) h = absurd cc
cert-run o (Tree (node ∷ nodes)) h =
    let parts = and_parts (are_whole 1 (node ∷ nodes)) (list_all is_lawful_node (node ∷ nodes)) h.cert in
    let each = and_parts (is_lawful_node node) (list_all is_lawful_node nodes) parts.1 in
    ap (run (stage.Outcome o)) (append_assoc (node_entries node) (flat_map node_entries nodes) (entry.End ∷ []))
    ∙ (node-run (stage.Outcome o) o (missing_behind 1 node) [] node (flat_map node_entries nodes ++ entry.End ∷ []) each.0 (first o node h.wide)
    ∙ tree-run o (missing_behind 1 node) [] node nodes (whole_behind 0 node nodes parts.0) each.1)

-- what can be written leads to the end
pub written_run : (o : Outcome) (c : Cert) → IsWritable o c → run stage.Start (entries o c) ≡ Some (stage.Whole record { outcome = o; cert = c })
written_run o c h = outcome-run o (cert_entries c ++ entry.End ∷ []) h.wide ∙ cert-run o c h
