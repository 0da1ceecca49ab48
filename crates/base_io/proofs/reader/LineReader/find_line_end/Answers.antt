use Rattle.std.proofs.Common.{◌≡◌, ◌+◌, ◌<◌, length, length-append, true, false, refl, subst, [], inl, inr, sym, ap, ◌∙◌, arith}
use Rattle.std.proofs.lemmas.List.{append-nil}
use Rattle.base_io.specs.declared.limits.TheConstants.{INPUT_LIMIT}
use Rattle.base_io.specs.Held.{Held}
use Rattle.std.proofs.lemmas.Bool.{ltb-false}
use Rattle.base_io.specs.declared.limits.TheConstants.{LINE_LIMIT}
use Rattle.base_io.specs.Lines.{has_line_feed, without_return, is_too_long}
use Rattle.base_io.proofs.Giving.{length-without_return}
use Rattle.base_io.specs.Reader.{IsPartOfLine, Moves}
use Rattle.base_io.proofs.LineFeeds.{none_found, some_found}
use Rattle.base_io.proofs.Giving.{Moves-none}
use Rattle.base_io.proofs.Passing.{Moves-still, search_goes_on}
use Rattle.base_io.proofs.reader.LineReader.find_line_end.Goals as goal
use Rattle.base_io.proofs.reader.LineReader.find_line_end.Goals.{then-is_line_too_long-via-then-is_line_too_long, then-is_line_too_long-via-else-is_line_too_long+then-is_input_too_long}

pub loop-place-init : goal.loop-place-init
loop-place-init g c =
    let left = g.S.Source.left c.args.source.now in
    record {
      same = refl;
      later = omega arith;
      moves = subst (λ (h : Held). Moves IsPartOfLine c.args.self.now h left left []) (sym c.self.view_is)
          (Moves-none IsPartOfLine c.args.self.now left (omega (arith, ap (λ (h : Held). h.given) c.self.view_is, c.self.invariant)) c.requires);
      in_range = omega arith;
      scanned = refl;
    }

pub returns-in-Some-clause-found : goal.returns-in-Some-clause-found
returns-in-Some-clause-found g c = (
  c.loop-place.invariant.moves,
  some_found c.loop-place.scanned c.in-Some.place c.held-held.result.now c.loop-place.self-inside.buffer.held c.line_feed_place.result c.held-held.ensures c.loop-place.invariant.in_range c.loop-place.invariant.scanned c.line_feed_place.ensures c.in-Some.is,
)

pub returns-then-is_line_too_long-clause-found : goal.returns-then-is_line_too_long-clause-found
returns-then-is_line_too_long-clause-found g c =
    let held = c.loop-place.self-inside.buffer.held in
    let one = none_found c.loop-place.scanned c.held-held.result.now held c.line_feed_place.result c.held-held.ensures c.loop-place.invariant.scanned c.line_feed_place.ensures c.in_default.is in
    let same = c.held-held.ensures in
    let long = c.is_line_too_long.ensures in
    let moves = c.loop-place.invariant.moves in
    elim c.then-is_line_too_long.branch [
      | then-is_line_too_long-via-then-is_line_too_long w ↦
          (moves, inl (record { line = held; rest = []; whole = sym (append-nil held); one = one; long = inl (ap is_too_long (sym same) ∙ (sym long ∙ w.if-is_line_too_long.true)) }))
      | then-is_line_too_long-via-else-is_line_too_long+then-is_input_too_long w ↦
          (moves, inr (record { line = held; rest = []; whole = sym (append-nil held); one = one; long = inl (omega (arith, ap length same, w.is_input_too_long.ensures.yes w.if-is_input_too_long.true)) }))
    ]

pub returns-then-self-clause-found : goal.returns-then-self-clause-found
returns-then-self-clause-found g c = (
  c.loop-place.invariant.moves,
  c.if-self.true,
  record {
    one = none_found c.loop-place.scanned c.held-held.result.now c.loop-place.self-inside.buffer.held c.line_feed_place.result c.held-held.ensures c.loop-place.invariant.scanned c.line_feed_place.ensures c.in_default.is;
    short = ap is_too_long (sym c.held-held.ensures) ∙ (sym c.is_line_too_long.ensures ∙ c.if-is_line_too_long.false);
    below = omega (arith, ap length c.held-held.ensures, c.is_input_too_long.ensures.no c.if-is_input_too_long.false);
  },
)

pub loop-place-preserved-in-Bytes-eq0 : goal.loop-place-preserved-in-Bytes-eq0
loop-place-preserved-in-Bytes-eq0 g c =
    let feed = none_found c.loop-place.scanned c.held-held.result.now c.loop-place.self-inside.buffer.held c.line_feed_place.result c.held-held.ensures c.loop-place.invariant.scanned c.line_feed_place.ensures c.in_default.is in
    let fills = rw c.in-Bytes-eq0.is at c.in_ok-read_more.ensures.fills in
    let few = sym c.is_line_too_long.ensures ∙ c.if-is_line_too_long.false in
    let below : c.loop-place.self-inside.given + length c.held-held.result.now < INPUT_LIMIT = c.is_input_too_long.ensures.no c.if-is_input_too_long.false in
    let on = search_goes_on c.args.self.now c.loop-place.self-inside.buffer.held c.held-held.result.now c.read_more.new.self.held c.loop-place.self-inside.ended true c.loop-place.self-inside.given c.loop-place.self-inside.waiting _ _ _ _ c.held-held.ensures c.loop-place.invariant.moves c.if-self.false fills (λ _. c.in-Bytes-eq0.field-0-test) feed few below in
    record {
      same = c.in_ok-read_more.ensures.same ∙ c.loop-place.invariant.same;
      later = omega (arith, c.in_ok-read_more.ensures.later, c.loop-place.invariant.later);
      moves = on.0;
      in_range = on.1;
      scanned = on.2;
    }

pub loop-place-preserved : goal.loop-place-preserved
loop-place-preserved g c =
    let feed = none_found c.loop-place.scanned c.held-held.result.now c.loop-place.self-inside.buffer.held c.line_feed_place.result c.held-held.ensures c.loop-place.invariant.scanned c.line_feed_place.ensures c.in_default.is in
    let fills = rw c.in-Bytes.is at c.in_ok-read_more.ensures.fills in
    let few = sym c.is_line_too_long.ensures ∙ c.if-is_line_too_long.false in
    let below : c.loop-place.self-inside.given + length c.held-held.result.now < INPUT_LIMIT = c.is_input_too_long.ensures.no c.if-is_input_too_long.false in
    let on = search_goes_on c.args.self.now c.loop-place.self-inside.buffer.held c.held-held.result.now c.read_more.new.self.held c.loop-place.self-inside.ended c.loop-place.self-inside.ended c.loop-place.self-inside.given c.loop-place.self-inside.waiting _ _ _ _ c.held-held.ensures c.loop-place.invariant.moves c.if-self.false fills (λ is. absurd (cc (is, c.if-self.false))) feed few below in
    record {
      same = c.in_ok-read_more.ensures.same ∙ c.loop-place.invariant.same;
      later = omega (arith, c.in_ok-read_more.ensures.later, c.loop-place.invariant.later);
      moves = on.0;
      in_range = on.1;
      scanned = on.2;
    }

pub returns-in-Failed-clause-found : goal.returns-in-Failed-clause-found
returns-in-Failed-clause-found g c =
    let fills = rw c.in-Failed.is at c.in_ok-read_more.ensures.fills in
    let one = none_found c.loop-place.scanned c.held-held.result.now c.loop-place.self-inside.buffer.held c.line_feed_place.result c.held-held.ensures c.loop-place.invariant.scanned c.line_feed_place.ensures c.in_default.is in
    let whole : c.read_more.new.self.held ≡ c.held-held.result.now = fills.1 ∙ sym c.held-held.ensures in (
      Moves-still IsPartOfLine c.args.self.now _ c.read_more.new.self.held _ _ _ c.loop-place.invariant.moves c.if-self.false fills.0 fills.1,
      c.if-self.false,
      record {
        one = ap has_line_feed fills.1 ∙ one;
        short = ap is_too_long whole ∙ (sym c.is_line_too_long.ensures ∙ c.if-is_line_too_long.false);
        below = omega (arith, ap length whole, c.is_input_too_long.ensures.no c.if-is_input_too_long.false);
      },
    )

pub loop-place-smaller : goal.loop-place-smaller
loop-place-smaller g c =
    let held = c.held-held.result.now in
    let few : is_too_long held ≡ false = sym c.is_line_too_long.ensures ∙ c.if-is_line_too_long.false in
    let fills = rw c.in-Bytes.is at c.in_ok-read_more.ensures.fills in
    omega (
      arith,
      ltb-false LINE_LIMIT (length (without_return held)) few,
      (length-without_return held).1,
      ap length c.held-held.ensures,
      ap length fills.2,
      length-append c.loop-place.self-inside.buffer.held fills.0,
      fills.3,
      c.in-Bytes.field-0-test.1,
    )
