use Rattle.std.proofs.Common.{rules, subst, inl, inr, ◌≡◌, ◌∙◌, ap, refl, true, ℕ, List, [], ◌∷◌}
use Rattle.disk_model.specs.Disk.{overwritten, Torn}
use Rattle.disk_model.specs.declared.answer.DiskDone.{DiskDone}
use Rattle.disk_model.specs.declared.answer.DiskDone.TheVariants.{Done}
use Rattle.disk_model.proofs.Moments.{weaker, joins}
use Rattle.journal.specs.Plans.{RanOn, through}
use Rattle.journal.specs.Putting.{is_done}
use Rattle.journal.specs.Records.{header}
use Rattle.journal.proofs.Beginning.{torn_short, torn_gate_of_new, header_alone}
use Rattle.journal.proofs.Planning.{run_more}
use Rattle.journal.proofs.mending.begin_file.Goals as goal

pub returns-then-eq-clause-any_moment : goal.returns-then-eq-clause-any_moment
returns-then-eq-clause-any_moment g c =
    weaker g.D.Disk.moment g.D.Disk.left c.args.disk.now c.write_through.new.disk _ _
    (λ image torn. let few = c.requires.short torn.0 torn.1 in (torn.0, torn.1, inr (inl (few, (refl, inl (torn_short torn.0 image few torn.2)))))) c.write_through.ensures.any_moment

pub returns-clause-done : goal.returns-clause-done
returns-clause-done g c done image left =
    let header_done : c.write_through.result ≡ Done = search rules in
    let second = c.write_through-2.ensures.done done image left in
    let first = c.write_through.ensures.done header_done second.0 (g.met.D.Disk.reads_an_image c.write_through.new.disk second.0 second.1) in
    let short = c.requires.short first.0 (g.met.D.Disk.reads_an_image c.args.disk.now first.0 first.1) in
    ([], second.2 ∙ ap (overwritten 8 (0 ∷ [])) (first.2 ∙ header_alone first.0 short))

pub returns-clause-any_moment : goal.returns-clause-any_moment
returns-clause-any_moment g c =
    let m = g.D.Disk.moment in
    let l = g.D.Disk.left in
    let old = c.args.disk.now in
    let mid = c.write_through.new.disk in
    let new = c.write_through-2.new.disk in
    let header_done : c.write_through.result ≡ Done = search rules in
    joins m l old mid new _
    (weaker m l old mid _ _ (λ image torn. let few = c.requires.short torn.0 torn.1 in (torn.0, torn.1, inr (inl (few, (refl, inl (torn_short torn.0 image few torn.2)))))) c.write_through.ensures.any_moment)
    (weaker m l mid new _ _ (λ image torn.
    let first = c.write_through.ensures.done header_done torn.0 torn.1 in
    let told = g.met.D.Disk.reads_an_image c.args.disk.now first.0 first.1 in
    let few = c.requires.short first.0 told in
    let is : torn.0 ≡ header = first.2 ∙ header_alone first.0 few in
    (first.0, told, inr (inl (few, torn_gate_of_new image (subst (λ (f : List ℕ). Torn 8 1 f image) is torn.2))))) c.write_through-2.ensures.any_moment)

pub returns-clause-calls : goal.returns-clause-calls
returns-clause-calls g c =
    let calls = g.D.Disk.calls in
    let makes = g.D.Disk.makes in
    let old = c.args.disk.now in
    let mid = c.write_through.new.disk in
    let header_done : c.write_through.result ≡ Done = search rules in
    let first : RanOn calls makes (through 0 header) old mid true = subst (λ (a : DiskDone). RanOn calls makes (through 0 header) old mid (is_done a)) header_done c.write_through.ensures.calls in
    run_more calls makes (through 0 header) (through 8 (0 ∷ [])) old mid c.write_through-2.new.disk (is_done c.write_through-2.result) first c.write_through-2.ensures.calls
