-- A solve that is made turn by turn ends as the plain solver does.
use Rattle.std.proofs.Common.{◌≡◌, refl, sym, ◌∙◌, ap, ap₂, subst, Bool, true, false, true≢false, ℕ, ◌+◌, ◌-◌, ◌<◌, ⊎_elim, arith}
use Rattle.std.proofs.lemmas.Bool.{cases_lt}
use Rattle.model_data.specs.declared.model.Model.{Model}
use Rattle.model_data.specs.declared.params.Params.{Params}
use Rattle.model_data.specs.declared.solution.Cert.{Cert}
use Rattle.model_data.specs.declared.solution.Outcome.{Outcome}
use Rattle.solve_defs.specs.Plain.{Progress, Run, Search, going, over, plain_run, run, start, turn, turn_limit}
use Rattle.branch_tree.specs.Solves.{Solve, is_over}
use Rattle.search_laws.specs.Turns.{IsOver}
use Rattle.search_laws.proofs.Limits.{counts_are_turns, plain_more, plain_over, run_enough}
use Rattle.search_laws.proofs.Runs.{run-going, run-more, run-none}
use Rattle.solve_command.specs.Turns.{Turns}

-- so many turns have been made, and the solve stands there
pub record Goes (m : Model) (p : Params) (at : Progress) : Type 0 where
  pub turns : ℕ
  pub made : (run m p turns (going start)).progress ≡ at
  pub search : Search
  pub going_on : at ≡ going search

pub goes_first : (m : Model) (p : Params) → Goes m p (going start)
goes_first m p = record { turns = 0; made = ap (λ (r : Run). r.progress) (run-none m p (going start)); search = start; going_on = refl }

-- one turn more
turned : (m : Model) (p : Params) (at : Progress) → (goes : Goes m p at) → (run m p (goes.turns + 1) (going start)).progress ≡ (turn m p goes.search).progress
turned m p at goes =
    ap (λ (r : Run). r.progress) (run-more m p goes.turns 1 (going start))
    ∙ ap (λ (from : Progress). (run m p 1 from).progress) (goes.made ∙ goes.going_on)
    ∙ ap (λ (r : Run). r.progress) (run-going m p 0 goes.search)
    ∙ ap (λ (r : Run). r.progress) (run-none m p (turn m p goes.search).progress)

pub goes_next : (m : Model) (p : Params) (at : Progress) → (goes : Goes m p at) → (s : Search) → (turn m p goes.search).progress ≡ going s → Goes m p (turn m p goes.search).progress
goes_next m p at goes s is = record { turns = goes.turns + 1; made = turned m p at goes; search = s; going_on = is }

-- A turn that ends the solve ends it as the plain solver does.
pub goes_to_end : (m : Model) (p : Params) (at : Progress) → (goes : Goes m p at) → (o : Outcome) (cert : Cert) → (turn m p goes.search).progress ≡ over o cert → (plain_run m p).progress ≡ over o cert
goes_to_end m p at goes o cert is = ap (λ (r : Run). r.progress) same ∙ turned m p at goes ∙ is
  where
    ends : IsOver (run m p (goes.turns + 1) (going start)).progress
    ends = subst IsOver (sym (turned m p at goes ∙ is)) tt

    same : plain_run m p ≡ run m p (goes.turns + 1) (going start)
    same =
        ⊎_elim
        (λ fewer. run_enough m p (going start) (goes.turns + 1) (turn_limit p) ends (omega (arith, fewer)))
        (λ more. sym (plain_more m p (goes.turns + 1) more))
        (cases_lt (goes.turns + 1) (turn_limit p))

-- how many turns there may still be
abbrev pub turns_left : Params → Progress → ℕ
turns_left p (going s) = turn_limit p - (s.pivots + s.nodes)
turns_left p (over o cert) = 0

turns_at : (m : Model) (p : Params) (at : Progress) → (goes : Goes m p at) → turns_left p at ≡ turn_limit p - goes.turns
turns_at m p at goes =
    ap (turns_left p) goes.going_on
    ∙ ap (λ n. turn_limit p - n) (counts_are_turns m p goes.turns goes.search (goes.made ∙ goes.going_on))

-- a solve that goes on hasn't come to the limit
below_limit : (m : Model) (p : Params) (at : Progress) → (goes : Goes m p at) → goes.turns < turn_limit p
below_limit m p at goes =
    ⊎_elim (λ less. less)
    (λ most. absurd (subst IsOver (ap (λ (r : Run). r.progress) (sym (plain_more m p goes.turns most)) ∙ goes.made ∙ goes.going_on) (plain_over m p)))
    (cases_lt goes.turns (turn_limit p))

pub fewer_left : (m : Model) (p : Params) (at : Progress) → (goes : Goes m p at) → (s : Search) → (turn m p goes.search).progress ≡ going s
    → turns_left p (turn m p goes.search).progress < turns_left p at
unfolding goes_next
fewer_left m p at goes s is =
    let before : turns_left p at ≡ p.iterations + p.nodes + 1 - goes.turns = turns_at m p at goes in
    let after : turns_left p (turn m p goes.search).progress ≡ p.iterations + p.nodes + 1 - (goes.turns + 1) =
    turns_at m p (turn m p goes.search).progress (goes_next m p at goes s is) in
    let below : goes.turns < p.iterations + p.nodes + 1 = below_limit m p at goes in
    omega (arith, before, after, below)

-- ---- a solve in memory

-- The solve is of this model within these limits, and goes on.
pub record IsUnderWay (m : Model) (p : Params) (s : Solve) : Type 0 where
  pub model : s.model ≡ m
  pub params : s.params ≡ p
  pub goes : Goes m p s.progress

pub under_first : (m : Model) (p : Params) (s : Solve) → s.model ≡ m → s.params ≡ p → s.progress ≡ going start → IsUnderWay m p s
under_first m p s model params first = record { model = model; params = params; goes = subst (Goes m p) (sym first) (goes_first m p) }

going_of : (at : Progress) → is_over at ≡ false → (s : Search) × (at ≡ going s)
going_of (going s) is = (s, refl)
going_of (over o cert) is = absurd (true≢false is)

-- how a solve has ended
record IsEnd (at : Progress) : Type 0 where
  outcome : Outcome
  cert : Cert
  is : at ≡ over outcome cert

over_of : (at : Progress) → is_over at ≡ true → IsEnd at
over_of (going s) is = absurd (true≢false (sym is))
over_of (over o cert) is = record { outcome = o; cert = cert; is = refl }

turn_here : (m : Model) (p : Params) (old : Solve) → (under : IsUnderWay m p old) → (turn old.model old.params under.goes.search).progress ≡ (turn m p under.goes.search).progress
turn_here m p old under = ap₂ (λ n q. (turn n q under.goes.search).progress) under.model under.params

leads_to : (m : Model) (p : Params) (old new : Solve) (ended : Bool) → (under : IsUnderWay m p old) → Turns (turn old.model old.params under.goes.search) ended old new → ended ≡ false
    → (s : Search) × ((turn m p under.goes.search).progress ≡ going s)
leads_to m p old new ended under made is = going_of (turn m p under.goes.search).progress (ap is_over (sym (turn_here m p old under)) ∙ sym made.ends ∙ is)

pub under_next : (m : Model) (p : Params) (old new : Solve) (ended : Bool) → (under : IsUnderWay m p old) → Turns (turn old.model old.params under.goes.search) ended old new → ended ≡ false
    → IsUnderWay m p new
under_next m p old new ended under made is = let next = leads_to m p old new ended under made is in record {
  model = made.model ∙ under.model;
  params = made.params ∙ under.params;
  goes = subst (Goes m p) (sym (made.progress ∙ turn_here m p old under)) (goes_next m p old.progress under.goes next.0 next.1);
}

pub under_fewer : (m : Model) (p : Params) (old new : Solve) (ended : Bool) → (under : IsUnderWay m p old) → Turns (turn old.model old.params under.goes.search) ended old new → ended ≡ false
    → turns_left p new.progress < turns_left p old.progress
under_fewer m p old new ended under made is =
    let next = leads_to m p old new ended under made is in
    subst (λ at. turns_left p at < turns_left p old.progress) (sym (made.progress ∙ turn_here m p old under)) (fewer_left m p old.progress under.goes next.0 next.1)

-- The solve has ended, as the plain solver does.
pub record EndsPlain (m : Model) (p : Params) (s : Solve) : Type 0 where
  pub outcome : Outcome
  pub cert : Cert
  pub own : s.progress ≡ over outcome cert
  pub plain_one : (plain_run m p).progress ≡ over outcome cert

pub under_end : (m : Model) (p : Params) (old new : Solve) (ended : Bool) → (under : IsUnderWay m p old) → Turns (turn old.model old.params under.goes.search) ended old new → ended ≡ true
    → EndsPlain m p new
under_end m p old new ended under made is =
    let at = turn_here m p old under in
    let end = over_of (turn m p under.goes.search).progress (ap is_over (sym at) ∙ sym made.ends ∙ is) in
    record {
      outcome = end.outcome;
      cert = end.cert;
      own = made.progress ∙ at ∙ end.is;
      plain_one = goes_to_end m p old.progress under.goes end.outcome end.cert end.is;
    }
