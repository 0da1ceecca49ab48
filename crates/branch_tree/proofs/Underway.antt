-- The node under way, by what is kept of it.
use Rattle.std.proofs.Common.{◌≡◌, ◌∙◌, refl, sym, ap, subst, ℕ, ◌<◌, Option, Some, None, is_some, true, List, [], ◌∷◌, ◌++◌, All, length}
use Rattle.std.proofs.lemmas.List.Elements.{All-cons, All-head, All-push, All-tail}
use Rattle.std.specs.Option.{ForSome}
use Rattle.dictionary.specs.Dictionary.{Dictionary}
use Rattle.model_data.specs.declared.model.Model.{Model}
use Rattle.simplex_rule.specs.OnPath.{IsOnPath}
use Rattle.solve_defs.specs.Ends.{structural_count}
use Rattle.solve_defs.specs.Plain.{Node}
use Rattle.solve_defs.specs.StandardForm.{column_count, shapes_of}
use Rattle.solve_defs.specs.declared.cut.Cut.{Cut}
use Rattle.std_form.specs.Cuts.{IsCutOf}
use Rattle.branch_tree.specs.Under.{IsUnderWay, node_of, waiting_of}
use Rattle.branch_tree.specs.Waits.{Open, next_of}

-- the run of a node under way
pub record RunOf (run : Option Dictionary) (cases : Open) (node : Node) : Type 0 where
  pub of : Dictionary
  pub is : run ≡ Some of
  pub node_is : record { cuts = cases.own; dictionary = of } ≡ node
  pub waits : waiting_of run cases ≡ cases.waiting

pub run_of : (run : Option Dictionary) (cases : Open) (node : Node) → node_of run cases ≡ Some node → RunOf run cases node
run_of None cases node h = absurd cc
run_of (Some d) cases node h = record { of = d; is = refl; node_is = cc; waits = refl }

pub dictionary_is : (run : Option Dictionary) (cases : Open) (node : Node) (d : Dictionary) → node_of run cases ≡ Some node → run ≡ Some d → node.dictionary ≡ d
dictionary_is None cases node d h is = absurd cc
dictionary_is (Some e) cases node d h is =
    let same : record { cuts = cases.own; dictionary = e } ≡ node = cc in
    let alike : e ≡ d = cc in
    sym (ap (λ (n : Node). n.dictionary) same) ∙ alike

pub node_some : (run : Option Dictionary) (cases : Open) → is_some run ≡ true → (node : Node) × (node_of run cases ≡ Some node)
node_some None cases h = absurd cc
node_some (Some d) cases h = (record { cuts = cases.own; dictionary = d }, refl)

pub fresh : (run : Option Dictionary) (cases : Open) → node_of run cases ≡ None → waiting_of run cases ≡ [] ∷ []
fresh None cases h = refl
fresh (Some d) cases h = absurd cc

pub under_way : (m : Model) (limit nodes : ℕ) (cases : Open) (run : Option Dictionary) (node : Node) → ForSome run (IsUnderWay m limit nodes cases)
    → node_of run cases ≡ Some node → (d : Dictionary) × IsUnderWay m limit nodes cases d
under_way m limit nodes cases run node sound h = let r = run_of run cases node h in (r.of, sound r.of r.is)

pub next_cuts : (P : Cut → Type 0) (waiting : List (List Cut)) (cuts : List Cut) → next_of waiting ≡ Some cuts → All (All P) waiting → All P cuts
next_cuts P [] cuts is all = absurd cc
next_cuts P (x ∷ later) cuts is all = let same : x ≡ cuts = cc in subst (All P) same (All-head (All P) x later all)

pub part_cuts : (P : Cut → Type 0) (own cuts : List Cut) (cut : Cut) → cuts ≡ own ++ cut ∷ [] → All P own → P cut → All P cuts
part_cuts P own cuts cut is all one = subst (All P) (sym is) (All-push P own cut all one)

-- The node that waited first is under way.
pub closed_sound : (m : Model) (limit before nodes : ℕ) (cases new : Open) (cuts : List Cut) (later : List (List Cut)) (d run : Dictionary)
    → IsUnderWay m limit before cases d → cases.waiting ≡ cuts ∷ later → new ≡ record { own = cuts; waiting = later } → IsOnPath run
    → structural_count run ≡ column_count (shapes_of m cuts) → nodes < limit
    → IsUnderWay m limit nodes new run
closed_sound m limit before nodes cases new cuts later d run under waits is path columns within =
    let P : Cut → Type 0 = IsCutOf (length m.vars) in
    let all = subst (All (All P)) waits under.waiting in
    record {
      path = path;
      columns = columns ∙ ap (λ (o : Open). column_count (shapes_of m o.own)) (sym is);
      own = subst (λ (o : Open). All P o.own) (sym is) (All-head (All P) cuts later all);
      waiting = subst (λ (o : Open). All (All P) o.waiting) (sym is) (All-tail (All P) cuts later all);
      within = within;
    }

-- A part of the node that was under way is.
pub halved_sound : (m : Model) (limit before nodes : ℕ) (cases new : Open) (cuts : List Cut) (low high : Cut) (d run : Dictionary)
    → IsUnderWay m limit before cases d → cuts ≡ cases.own ++ low ∷ [] → IsCutOf (length m.vars) low → IsCutOf (length m.vars) high
    → new ≡ record { own = cuts; waiting = (cases.own ++ high ∷ []) ∷ cases.waiting } → IsOnPath run
    → structural_count run ≡ column_count (shapes_of m cuts) → nodes < limit
    → IsUnderWay m limit nodes new run
halved_sound m limit before nodes cases new cuts low high d run under cuts_are is_low is_high is path columns within =
    let P : Cut → Type 0 = IsCutOf (length m.vars) in
    record {
      path = path;
      columns = columns ∙ ap (λ (o : Open). column_count (shapes_of m o.own)) (sym is);
      own = subst (λ (o : Open). All P o.own) (sym is) (part_cuts P cases.own cuts low cuts_are under.own is_low);
      waiting = subst (λ (o : Open). All (All P) o.waiting) (sym is) (All-cons (All P) (cases.own ++ high ∷ []) cases.waiting (All-push P cases.own high under.own is_high) under.waiting);
      within = within;
    }
