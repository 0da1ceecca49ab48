use Rattle.std.proofs.Common.{◌≡◌, ◌≢◌, ◌≤◌, ◌<◌, ◌∙◌, sym, ap, subst, ℕ, List, [], ◌∷◌, length, slice_index, Option, None, Some, IfSome, refl, rules, true}
use Rattle.disk_model.specs.Disk.{overwritten, Torn}
use Rattle.disk_model.proofs.Moments.{weaker}
use Rattle.journal.specs.Mounting.{IsUnclosed, Mends}
use Rattle.journal.specs.Plans.{Step, RanOn}
use Rattle.journal.specs.Putting.{is_done}
use Rattle.journal.specs.Records.{records, IsClosed}
use Rattle.journal.proofs.FileEnds.{inside, mended, mended_torn, unclosed_at, closed_already, closed_plan, open_plan_of}
use Rattle.journal.proofs.Planning.{ran_none}
use Rattle.journal.proofs.mending.mend.Goals as goal

pub returns-then-file-at-eq0-clause-done : goal.returns-then-file-at-eq0-clause-done
returns-then-file-at-eq0-clause-done g c done image left =
    let file = c.args.file.now in
    subst (λ (i : List ℕ). IsClosed (records file) i) (sym (c.requires.only image left)) (closed_already file c.args.end c.requires.end c.if-at-file.true c.if-file-at-eq0.true)

pub returns-then-file-at-eq0-clause-calls : goal.returns-then-file-at-eq0-clause-calls
returns-then-file-at-eq0-clause-calls g c =
    let disk = c.args.disk.now in
    subst (λ (plan : List Step). RanOn g.D.Disk.calls g.D.Disk.makes plan disk disk true) (sym (closed_plan c.args.file.now c.args.end c.requires.end c.if-at-file.true c.if-file-at-eq0.true)) (ran_none g.D.Disk.calls g.D.Disk.makes disk)

in_file : (seen : Option (List ℕ)) (file : List ℕ) (end : ℕ) → end ≤ length file → ((f : List ℕ) → seen ≡ Some f → f ≡ file) → IfSome seen (λ f. end ≤ length f)
in_file None file end le same = tt
in_file (Some f) file end le same = let is = same f refl in rw is le

pub write_through-requires : goal.write_through-requires
write_through-requires g c =
    let file = c.args.file.now in
    in_file (g.D.Disk.seen c.args.disk.now) file c.args.end (inside file c.args.end c.requires.end) (λ f is. c.requires.only f (g.met.D.Disk.reads_an_image c.args.disk.now f is))

pub returns-clause-done : goal.returns-clause-done
returns-clause-done g c done image left =
    let file = c.args.file.now in
    let put = c.write_through.ensures.done done image left in
    let same = c.requires.only put.0 (g.met.D.Disk.reads_an_image c.args.disk.now put.0 put.1) in
    subst (λ (i : List ℕ). IsClosed (records file) i) (sym (put.2 ∙ ap (overwritten c.args.end (0 ∷ [])) same)) (mended file c.args.end c.requires.end)

pub returns-clause-any_moment : goal.returns-clause-any_moment
returns-clause-any_moment g c =
    let file = c.args.file.now in
    let s = c.requires.end in
    let unclosed : IsUnclosed s.rest = unclosed_at file c.args.end s (search rules) in
    weaker g.D.Disk.moment g.D.Disk.left c.args.disk.now c.write_through.new.disk _ _
    (λ image torn.
    let same = c.requires.only torn.0 torn.1 in
    (torn.0, torn.1, subst (λ (f : List ℕ). Mends f image) (sym same) (mended_torn file c.args.end s unclosed image (subst (λ (f : List ℕ). Torn c.args.end 1 f image) same torn.2))))
    c.write_through.ensures.any_moment

pub returns-clause-calls : goal.returns-clause-calls
returns-clause-calls g c =
    let file = c.args.file.now in
    let other : c.args.end < length file → slice_index file c.args.end ≢ 0 = search rules in
    subst (λ (plan : List Step). RanOn g.D.Disk.calls g.D.Disk.makes plan c.args.disk.now c.write_through.new.disk (is_done c.write_through.result)) (open_plan_of file c.args.end c.requires.end other) c.write_through.ensures.calls
