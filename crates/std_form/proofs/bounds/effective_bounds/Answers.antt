use Rattle.std.proofs.Common.{◌≡◌, ◌∙◌, sym, ap, ap₂, length, take, slice_index_or, slice_set, None, rules}
use Rattle.solve_defs.specs.Bounds.{both, cut_bounds}
use Rattle.solve_defs.specs.declared.cut.Cut.{Cut}
use Rattle.std_form.proofs.CutBounds.{bounds_from-cut, bounds_from-none, tightened}
use Rattle.solve_defs.proofs.Relaxed.{length-bounds_from}
use Rattle.std_form.proofs.bounds.effective_bounds.Goals as goal

abbrev no_cut : Cut
no_cut = record { var = 0; lower = None; upper = None }

pub loop-cut-init : goal.loop-cut-init
loop-cut-init c = c.in_ok-bounds.ensures ∙ sym (bounds_from-none 0 c.args.vars.now)

pub index_mut-own-requires : goal.index_mut-own-requires
index_mut-own-requires c =
    let own = c.requires c.loop-cut.cut-index no_cut c.loop-cut-test.true in
    let sizes : length c.loop-cut.bounds.items ≡ length c.args.vars.now =
    ap length c.loop-cut.invariant ∙ length-bounds_from 0 c.args.vars.now (take c.loop-cut.cut-index c.args.cuts.now) in
    search (rules, own.within)

pub loop-cut-preserved : goal.loop-cut-preserved
loop-cut-preserved c =
    let i = c.loop-cut.cut-index in
    let cut : Cut = slice_index_or c.args.cuts.now i no_cut in
    let before = c.index_mut-own.result.now in
    let own = c.requires i no_cut c.loop-cut-test.true in
    let more = bounds_from-cut c.args.vars.now c.args.cuts.now i no_cut before c.loop-cut-test.true own.within in
    let value : c.both.result ≡ both (slice_index_or c.loop-cut.bounds.items cut.var before) (cut_bounds cut) =
    c.both.ensures ∙ ap₂ both c.index_mut-own.ensures.value c.of_cut.ensures in
    ap (slice_set c.loop-cut.bounds.items cut.var) value ∙ ap (tightened before cut) c.loop-cut.invariant ∙ sym more
