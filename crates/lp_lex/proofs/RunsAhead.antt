-- A run, walked over byte by byte.
use Rattle.std.proofs.Common.{◌≡◌, refl, sym, ◌∙◌, ap, ap₂, subst, ℕ, suc, ◌+◌, ◌-◌, ◌<◌, ◌≤◌, Bool, true, false, cond, ◌&&◌, ◌||◌, not, List, [], ◌∷◌, length, take, drop, arith, ◌==◌, inl, inr, ◌⊎◌, add-zero}
use Rattle.std.specs.List.{prefix_len, take_while}
use Rattle.std.proofs.lemmas.Bool.{cond-false, cond-true}
use Rattle.std.proofs.lemmas.List.{drop-drop, length-drop, take_all}
use Rattle.std.proofs.lemmas.List.Folds.{length-prefix_len}
use Rattle.std.proofs.lemmas.List.Sums.{prefix_len-le-length}
use Rattle.lp_defs.specs.declared.token.Place.{Place}
use Rattle.lp_defs.specs.Tokens.{gap, comment, run, is_run, uncommented_part, is_white, is_run_byte, line_feed, backslash, behind_byte, behind_bytes, Run, runs_from}
use Rattle.lp_lex.specs.Ahead.{IsWithin, IsGap, IsNext, along, end_ahead, runs_ahead}
use Rattle.lp_lex.proofs.Gaps.{not_begun}

-- what a byte of a run is, and what it isn't
run_part : (byte : ℕ) → is_run_byte byte ≡ true → uncommented_part byte ≡ run
run_part byte h = by_tests (is_white byte) (byte == backslash) h
  where
    by_tests : (w s : Bool) → not (w || s) ≡ true → cond s comment (cond w gap run) ≡ run
    by_tests true s h = absurd cc
    by_tests false true h = absurd cc
    by_tests false false h = refl

no_run_part : (byte : ℕ) → is_run_byte byte ≡ false → is_run (uncommented_part byte) ≡ false
no_run_part byte h = by_tests (is_white byte) (byte == backslash) h
  where
    by_tests : (w s : Bool) → not (w || s) ≡ false → is_run (cond s comment (cond w gap run)) ≡ false
    by_tests w true h = refl
    by_tests true false h = refl
    by_tests false false h = absurd cc

no_feed : (byte : ℕ) → is_run_byte byte ≡ true → (byte == line_feed) ≡ false
no_feed byte h = by_tests (byte == 32) (byte == 9) (byte == line_feed) (byte == 13) (byte == backslash) h
  where
    by_tests : (a b c d s : Bool) → not (a || b || c || d || s) ≡ true → c ≡ false
    by_tests true b c d s h = absurd cc
    by_tests false true c d s h = absurd cc
    by_tests false false true d s h = absurd cc
    by_tests false false false d s h = refl

-- places along a run
along_byte : (place : Place) (byte : ℕ) → is_run_byte byte ≡ true → behind_byte place byte ≡ along place 1
along_byte place byte h = cond-false (byte == line_feed) _ _ (no_feed byte h)

along_more : (place : Place) (n : ℕ) → along (along place 1) n ≡ along place (suc n)
along_more place n =
    let column : place.column + 1 + n ≡ place.column + suc n = omega arith in
    let offset : place.offset + 1 + n ≡ place.offset + suc n = omega arith in
    ap₂ (λ (c o : ℕ). let p : Place = record { line = place.line; column = c; offset = o } in p) column offset

along_none : (place : Place) → along place 0 ≡ place
along_none place = ap₂ (λ (c o : ℕ). let p : Place = record { line = place.line; column = c; offset = o } in p) (add-zero place.column) (add-zero place.offset)

front_counted : (byte : ℕ) (bytes : List ℕ) → is_run_byte byte ≡ true → prefix_len is_run_byte (byte ∷ bytes) ≡ suc (prefix_len is_run_byte bytes)
front_counted byte bytes h =
    let one : 1 + prefix_len is_run_byte bytes ≡ suc (prefix_len is_run_byte bytes) = omega arith in
    cond-true (is_run_byte byte) (1 + prefix_len is_run_byte bytes) 0 h ∙ one

front_stopped : (byte : ℕ) (bytes : List ℕ) → is_run_byte byte ≡ false → prefix_len is_run_byte (byte ∷ bytes) ≡ 0
front_stopped byte bytes h = cond-false (is_run_byte byte) (1 + prefix_len is_run_byte bytes) 0 h

-- a byte of a run behind another one begins nothing
goes_on : (place : Place) (byte : ℕ) (bytes : List ℕ) → is_run_byte byte ≡ true → runs_from run place (byte ∷ bytes) ≡ runs_from run (behind_byte place byte) bytes
unfolding runs_from
goes_on place byte bytes h =
    let part = run_part byte h in
    cond-false _ _ (runs_from (uncommented_part byte) (behind_byte place byte) bytes) (ap (λ p. is_run p && not (is_run run)) part)
    ∙ ap (λ p. runs_from p (behind_byte place byte) bytes) part

-- within a run, what is ahead is what is ahead of its end
RunRest : Place → List ℕ → Type 0
RunRest place bytes = runs_from run place bytes ≡ runs_from gap (along place (prefix_len is_run_byte bytes)) (drop (prefix_len is_run_byte bytes) bytes)

run_step : (place : Place) (byte : ℕ) (bytes : List ℕ) → ((q : Place) → RunRest q bytes) → (b : Bool) → is_run_byte byte ≡ b → RunRest place (byte ∷ bytes)
unfolding RunRest
run_step place byte bytes rest true h =
    let n = prefix_len is_run_byte bytes in
    goes_on place byte bytes h
    ∙ (ap (λ q. runs_from run q bytes) (along_byte place byte h)
    ∙ (rest (along place 1)
    ∙ (ap (λ q. runs_from gap q (drop n bytes)) (along_more place n)
    ∙ ap (λ k. runs_from gap (along place k) (drop k (byte ∷ bytes))) (sym (front_counted byte bytes h)))))
run_step place byte bytes rest false h =
    not_begun run place byte bytes (no_run_part byte h)
    ∙ (sym (not_begun gap place byte bytes (no_run_part byte h))
    ∙ (ap (λ q. runs_from gap q (byte ∷ bytes)) (sym (along_none place))
    ∙ ap (λ k. runs_from gap (along place k) (drop k (byte ∷ bytes))) (sym (front_stopped byte bytes h))))

run_rest : (bytes : List ℕ) (place : Place) → RunRest place bytes
unfolding RunRest runs_from
run_rest [] place = refl
run_rest (byte ∷ bytes) place = run_step place byte bytes (λ q. run_rest bytes q) (is_run_byte byte) refl

-- and so is the place of the end
EndRest : Place → List ℕ → Type 0
EndRest place bytes = behind_bytes place bytes ≡ behind_bytes (along place (prefix_len is_run_byte bytes)) (drop (prefix_len is_run_byte bytes) bytes)

end_step : (place : Place) (byte : ℕ) (bytes : List ℕ) → ((q : Place) → EndRest q bytes) → (b : Bool) → is_run_byte byte ≡ b → EndRest place (byte ∷ bytes)
unfolding EndRest behind_bytes
end_step place byte bytes rest true h =
    let n = prefix_len is_run_byte bytes in
    ap (λ q. behind_bytes q bytes) (along_byte place byte h)
    ∙ (rest (along place 1)
    ∙ (ap (λ q. behind_bytes q (drop n bytes)) (along_more place n)
    ∙ ap (λ k. behind_bytes (along place k) (drop k (byte ∷ bytes))) (sym (front_counted byte bytes h))))
end_step place byte bytes rest false h =
    ap (λ q. behind_bytes q (byte ∷ bytes)) (sym (along_none place))
    ∙ ap (λ k. behind_bytes (along place k) (drop k (byte ∷ bytes))) (sym (front_stopped byte bytes h))

end_rest : (bytes : List ℕ) (place : Place) → EndRest place bytes
unfolding EndRest
end_rest [] place = ap (λ q. behind_bytes q []) (sym (along_none place))
end_rest (byte ∷ bytes) place = end_step place byte bytes (λ q. end_rest bytes q) (is_run_byte byte) refl

-- the run at the front
abbrev run_at : Place → List ℕ → Run
run_at place bytes = record { place = place; bytes = take_while is_run_byte bytes }

front_step : (place : Place) (byte : ℕ) (bytes : List ℕ) (b : Bool) → is_run_byte byte ≡ b → 0 < prefix_len is_run_byte (byte ∷ bytes) → runs_from gap place (byte ∷ bytes) ≡ run_at place (byte ∷ bytes) ∷ runs_from run place (byte ∷ bytes)
unfolding runs_from
front_step place byte bytes true h some =
    let part = run_part byte h in
    let more = runs_from (uncommented_part byte) (behind_byte place byte) bytes in
    cond-true _ (run_at place (byte ∷ bytes) ∷ more) more (ap (λ p. is_run p && not (is_run gap)) part)
    ∙ ap (λ runs. run_at place (byte ∷ bytes) ∷ runs) (sym (cond-false _ _ more (ap (λ p. is_run p && not (is_run run)) part)))
front_step place byte bytes false h some = let none = front_stopped byte bytes h in absurd (omega arith)

front_run : (place : Place) (bytes : List ℕ) → 0 < prefix_len is_run_byte bytes → runs_from gap place bytes ≡ run_at place bytes ∷ runs_from gap (along place (prefix_len is_run_byte bytes)) (drop (prefix_len is_run_byte bytes) bytes)
unfolding RunRest
front_run place [] some = absurd (omega arith)
front_run place (byte ∷ bytes) some =
    front_step place byte bytes (is_run_byte byte) refl some ∙ ap (λ runs. run_at place (byte ∷ bytes) ∷ runs) (run_rest (byte ∷ bytes) place)

along_within : (text : List ℕ) (place : Place) (n : ℕ) → IsWithin text place → n ≤ length (drop place.offset text) → IsWithin text (along place n)
along_within text place n w h =
    let left = length-drop place.offset text in
    let in_text = w.in_text in
    let short = w.short in
    let line = w.line in
    let column = w.column in
    record { in_text = omega arith; short = short; line = omega arith; column = omega arith }

pub IsNext-behind_gap : (text : List ℕ) (from place : Place) → IsGap text from place → 0 < prefix_len is_run_byte (drop place.offset text) → IsNext text from (run_at place (drop place.offset text))
unfolding EndRest
IsNext-behind_gap text from place g some =
    let bytes = drop place.offset text in
    let n = prefix_len is_run_byte bytes in
    let len : length (take n bytes) ≡ n = length-prefix_len is_run_byte bytes in
    let most : n ≤ length bytes = prefix_len-le-length is_run_byte bytes in
    let cut : (place.offset + length (take n bytes)) - place.offset ≡ n = omega arith in
    let rest : drop n bytes ≡ drop (place.offset + n) text = drop-drop n place.offset text in
    let within = along_within text place n g.within most in
    record {
      forward = g.forward;
      not_empty = omega arith;
      slice = ap (λ k. take k bytes) (sym cut);
      runs = sym g.same_runs ∙ (front_run place bytes some
          ∙ (ap (λ bs. run_at place bytes ∷ runs_from gap (along place n) bs) rest
          ∙ ap (λ k. run_at place bytes ∷ runs_ahead text (along place k)) (sym len)));
      same_end = ap (λ k. end_ahead text (along place k)) len
          ∙ (ap (behind_bytes (along place n)) (sym rest) ∙ (sym (end_rest bytes place) ∙ g.same_end));
      within = subst (λ k. IsWithin text (along place k)) (sym len) within;
    }

pub none-behind_gap : (text : List ℕ) (from place : Place) → IsGap text from place → (drop place.offset text ≡ []) ⊎ (0 < prefix_len is_run_byte (drop place.offset text)) → length (take_while is_run_byte (drop place.offset text)) ≡ 0 → runs_ahead text from ≡ []
unfolding runs_from
none-behind_gap text from place g (inl e) none = sym g.same_runs ∙ ap (runs_from gap place) e
none-behind_gap text from place g (inr some) none =
    let len = length-prefix_len is_run_byte (drop place.offset text) in
    absurd (omega arith)

-- a slice up to the end
pub slice_to_end : (text : List ℕ) (n : ℕ) → take (length text - n) (drop n text) ≡ drop n text
slice_to_end text n = let left = length-drop n text in take_all (length text - n) (drop n text) (omega arith)
