-- The stack of the nodes that wait, when its top begins, or a part of the node under way.
use Rattle.std.proofs.Common.{◌≡◌, ◌∙◌, refl, sym, ap, ap₂, subst, ℕ, zero, suc, ◌≤◌, List, [], ◌∷◌, ◌++◌, length, length-append, length-take-le, map, reverse, take, arith}
use Rattle.std.proofs.lemmas.List.{reverse-append}
use Rattle.solve_defs.specs.declared.cut.Cut.{Cut}
use Rattle.branch_tree.specs.Stack.{Nests, cuts_of}
use Rattle.branch_tree.specs.declared.cases.Waiting.{Waiting}

take_all : (path more : List Cut) → take (length path) (path ++ more) ≡ path
take_all [] more = refl
take_all (x ∷ path) more = ap (λ xs. x ∷ xs) (take_all path more)

take_before : (j : ℕ) (path more : List Cut) → j ≤ length path → take j (path ++ more) ≡ take j path
take_before zero path more h = refl
take_before (suc j) [] more h = absurd (omega (arith, h))
take_before (suc j) (x ∷ path) more h = ap (λ xs. x ∷ xs) (take_before j path more (omega (arith, h)))

take_within : (j k : ℕ) (path more : List Cut) → j ≤ k → k ≤ length path → take j (take k path ++ more) ≡ take j path
take_within zero k path more h l = refl
take_within (suc j) zero path more h l = absurd (omega (arith, h))
take_within (suc j) (suc k) [] more h l = absurd (omega (arith, l))
take_within (suc j) (suc k) (x ∷ path) more h l = ap (λ xs. x ∷ xs) (take_within j k path more (omega (arith, h)) (omega (arith, l)))

deeper : (a b : ℕ) (nodes : List Waiting) → a ≤ b → Nests a nodes → Nests b nodes
deeper a b [] h nests = tt
deeper a b (node ∷ nodes) h nests = (let own = nests.0 in omega (arith, h, own), nests.1)

same_cuts : (k : ℕ) (path more : List Cut) (nodes : List Waiting) → k ≤ length path → Nests k nodes → map (cuts_of (take k path ++ more)) nodes ≡ map (cuts_of path) nodes
same_cuts k path more [] within nests = refl
same_cuts k path more (node ∷ nodes) within nests =
    ap₂ (λ (x : List Cut) (xs : List (List Cut)). x ∷ xs)
    (ap (λ xs. xs ++ node.cut ∷ []) (take_within node.depth k path more nests.0 within))
    (same_cuts k path more nodes within (deeper node.depth k nodes nests.0 nests.1))

longer_cuts : (path more : List Cut) (nodes : List Waiting) → Nests (length path) nodes → map (cuts_of (path ++ more)) nodes ≡ map (cuts_of path) nodes
longer_cuts path more [] nests = refl
longer_cuts path more (node ∷ nodes) nests =
    ap₂ (λ (x : List Cut) (xs : List (List Cut)). x ∷ xs)
    (ap (λ xs. xs ++ node.cut ∷ []) (take_before node.depth path more nests.0))
    (longer_cuts path more nodes (deeper node.depth (length path) nodes nests.0 nests.1))

top_first : (ws : List Waiting) (node : Waiting) → reverse (ws ++ node ∷ []) ≡ node ∷ reverse ws
top_first ws node = reverse-append ws (node ∷ [])

head_is : (x y : List Cut) (xs ys : List (List Cut)) → x ∷ xs ≡ y ∷ ys → x ≡ y
head_is x y xs ys e = cc

tail_is : (x y : List Cut) (xs ys : List (List Cut)) → x ∷ xs ≡ y ∷ ys → xs ≡ ys
tail_is x y xs ys e = cc

-- The top begins, whose cuts are these: then those wait that waited behind it.
pub begun_waits : (path new : List Cut) (stack ws : List Waiting) (node : Waiting) (later : List (List Cut))
    → map (cuts_of path) (reverse stack) ≡ new ∷ later → Nests (length path) (reverse stack) → stack ≡ ws ++ node ∷ [] → map (cuts_of new) (reverse ws) ≡ later
begun_waits path new stack ws node later view nests is =
    let is_top : reverse stack ≡ node ∷ reverse ws = ap reverse is ∙ top_first ws node in
    let here = subst (Nests (length path)) is_top nests in
    let seen : cuts_of path node ∷ map (cuts_of path) (reverse ws) ≡ new ∷ later = ap (map (cuts_of path)) (sym is_top) ∙ view in
    let now : cuts_of path node ≡ new = head_is (cuts_of path node) new (map (cuts_of path) (reverse ws)) later seen in
    ap (λ cs. map (cuts_of cs) (reverse ws)) (sym now)
    ∙ (same_cuts node.depth path (node.cut ∷ []) (reverse ws) here.0 here.1
    ∙ tail_is (cuts_of path node) new (map (cuts_of path) (reverse ws)) later seen)

pub begun_nested : (path new : List Cut) (stack ws : List Waiting) (node : Waiting) (later : List (List Cut))
    → map (cuts_of path) (reverse stack) ≡ new ∷ later → Nests (length path) (reverse stack) → stack ≡ ws ++ node ∷ [] → Nests (length new) (reverse ws)
begun_nested path new stack ws node later view nests is =
    let is_top : reverse stack ≡ node ∷ reverse ws = ap reverse is ∙ top_first ws node in
    let here = subst (Nests (length path)) is_top nests in
    let seen : cuts_of path node ∷ map (cuts_of path) (reverse ws) ≡ new ∷ later = ap (map (cuts_of path)) (sym is_top) ∙ view in
    let now : cuts_of path node ≡ new = head_is (cuts_of path node) new (map (cuts_of path) (reverse ws)) later seen in
    let sizes = length-append (take node.depth path) (node.cut ∷ []) in
    let front = length-take-le node.depth path here.0 in
    let size : length new ≡ length (cuts_of path node) = ap length (sym now) in
    deeper node.depth (length new) (reverse ws) (omega (arith, sizes, front, size)) here.1

-- A part of the node under way begins, and the other one waits first.
pub part_waits : (path new : List Cut) (stack ws : List Waiting) (cut other : Cut)
    → new ≡ path ++ cut ∷ [] → Nests (length path) (reverse stack) → ws ≡ stack ++ record { depth = length path; cut = other } ∷ []
    → map (cuts_of new) (reverse ws) ≡ (path ++ other ∷ []) ∷ map (cuts_of path) (reverse stack)
part_waits path new stack ws cut other is nests now =
    let node : Waiting = record { depth = length path; cut = other } in
    ap₂ (λ (cs : List Cut) (ns : List Waiting). map (cuts_of cs) ns) is (ap reverse now ∙ top_first stack node)
    ∙ ap₂ (λ (x : List Cut) (xs : List (List Cut)). x ∷ xs) (ap (λ xs. xs ++ other ∷ []) (take_all path (cut ∷ []))) (longer_cuts path (cut ∷ []) (reverse stack) nests)
