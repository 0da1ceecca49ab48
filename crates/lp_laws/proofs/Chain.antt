-- All stages that lead to one, so that a reading can be gone back by a token.
use Rattle.std.proofs.Common.{◌≡◌, ◌∙◌, subst, List, [], ◌∷◌, ◌++◌, append-nil, Ok}
use Rattle.lp_defs.specs.Reading.{after}
use Rattle.lp_defs.specs.Stage.{Stage, start}
use Rattle.lp_defs.specs.Symbols.{Seen, Spot, Symbol, token}
use Rattle.lp_laws.proofs.Lists.{never_empty, same_before, same_last}
use Rattle.lp_laws.proofs.Trail.{Here}
use Rattle.lp_laws.proofs.Waits.{Waits}

pub data Chain : List Seen → List Seen → Stage → Type 0 where
  begun : {rest : List Seen} → Here [] rest start → Chain [] rest start
  longer : {front : List Seen} {s : Spot} {symbol : Symbol} {rest : List Seen} {stage next : Stage} → Chain front (token s symbol ∷ rest) stage → after stage s symbol ≡ Ok next → Waits next s symbol →
      Here (front ++ token s symbol ∷ []) rest next → Chain (front ++ token s symbol ∷ []) rest next

pub here_of : {front rest : List Seen} {stage : Stage} → Chain front rest stage → Here front rest stage
here_of (begun h) = h
here_of (longer c e last h) = h

-- the stage before the last token
pub record Before (before : List Seen) (s : Spot) (symbol : Symbol) (rest : List Seen) (stage : Stage) : Type 0 where
  pub earlier : Stage
  pub chain : Chain before (token s symbol ∷ rest) earlier
  pub stepped : after earlier s symbol ≡ Ok stage

same_token : {t s : Spot} {other symbol : Symbol} → token t other ≡ token s symbol → (t ≡ s) × (other ≡ symbol)
same_token e = (cc, cc)

pub peel : {front rest : List Seen} {stage : Stage} → Chain front rest stage → (before : List Seen) (s : Spot) (symbol : Symbol) → front ≡ before ++ token s symbol ∷ [] → Before before s symbol rest stage
peel (begun h) before s symbol e = absurd (never_empty before (token s symbol) e)
peel (longer {front} {s = t} {symbol = other} {rest} {stage} {next} c stepped last h) before s symbol e =
    let same = same_token (same_last front before (token t other) (token s symbol) e) in
    let back = same_before front before (token t other) (token s symbol) e in
    record {
      earlier = stage;
      chain = subst (λ xs. Chain xs (token s symbol ∷ rest) stage) back (subst (λ x. Chain front (x ∷ rest) stage) (same_last front before (token t other) (token s symbol) e) c);
      stepped = subst (λ (p : Spot). after stage p symbol ≡ Ok next) same.0 (subst (λ (x : Symbol). after stage t x ≡ Ok next) same.1 stepped);
    }

-- the chain where nothing stands between
pub nothing_between : {front before rest : List Seen} {stage : Stage} → Chain front rest stage → front ≡ before ++ [] → Chain before rest stage
nothing_between {rest} {stage} c e = subst (λ xs. Chain xs rest stage) (e ∙ append-nil _) c
