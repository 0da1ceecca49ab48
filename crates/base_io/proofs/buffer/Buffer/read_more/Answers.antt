use Rattle.std.proofs.Common.{◌≡◌, ℕ, ◌-◌, ◌≤◌, ◌<◌, List, ◌++◌, length, take, ap, sym, ◌∙◌, arith}
use Rattle.std.proofs.lemmas.Grind.{common_steps}
use Rattle.std.proofs.lemmas.List.{length-take-le}
use Rattle.base_io.specs.Buffered.{Buffered}
use Rattle.base_io.specs.declared.source.Got.TheVariants.{Bytes}
use Rattle.base_io.proofs.BufferParts.{append_range, keep_range, written_is}
use Rattle.base_io.proofs.buffer.Buffer.read_more.Goals as goal

pub returns-in-Bytes-clause-fills : goal.returns-in-Bytes-clause-fills
returns-in-Bytes-clause-fills g c =
    let held = ap (λ (b : Buffered). b.held) c.self.view_is ∙ c.in_ok-make_room.ensures.held in
    let all : c.self.inside.bytes.len ≡ length c.self.inside.bytes.items = sym c.deref_mut.ensures.len ∙ ap length c.deref_mut.ensures.value in
    let high : c.self.inside.end ≤ length c.self.inside.bytes.items = omega (arith, c.self.invariant.1, all) in
    let some : length c.read_once-got.new.room ≡ length c.self.inside.bytes.items - c.self.inside.end = grind (arith, common_steps) in
    let written = written_is c.self.inside.bytes.items c.deref_mut.result.now c.read_once-got.new.room c.self.inside.end c.self.inside.bytes.len c.deref_mut.ensures.value all high some in
    let appended = append_range _ c.self.inside.bytes.items c.read_once-got.new.room c.self.inside.start c.self.inside.end c.in-Bytes.n c.self.invariant.0 high c.in-Bytes.ensures.count written in
    let room : 0 < c.self.inside.bytes.len - c.self.inside.end = omega (arith, ap (λ (b : Buffered). b.room) c.self.view_is, c.in_ok-make_room.ensures.room) in (
      take c.in-Bytes.n c.read_once-got.new.room,
      c.in-Bytes.ensures.bytes,
      appended ∙ ap (λ (l : List ℕ). l ++ take c.in-Bytes.n c.read_once-got.new.room) held,
      length-take-le c.in-Bytes.n c.read_once-got.new.room c.in-Bytes.ensures.count,
      c.in-Bytes.ensures.short,
      λ none. c.in-Bytes.ensures.end (ap Bytes none) (omega (arith, some, all, room)),
    )

pub returns-in_default-clause-fills : goal.returns-in_default-clause-fills
returns-in_default-clause-fills g c =
    let held = ap (λ (b : Buffered). b.held) c.self.view_is ∙ c.in_ok-make_room.ensures.held in
    let all : c.self.inside.bytes.len ≡ length c.self.inside.bytes.items = sym c.deref_mut.ensures.len ∙ ap length c.deref_mut.ensures.value in
    let high : c.self.inside.end ≤ length c.self.inside.bytes.items = omega (arith, c.self.invariant.1, all) in
    let some : length c.read_once-got.new.room ≡ length c.self.inside.bytes.items - c.self.inside.end = grind (arith, common_steps) in
    let written = written_is c.self.inside.bytes.items c.deref_mut.result.now c.read_once-got.new.room c.self.inside.end c.self.inside.bytes.len c.deref_mut.ensures.value all high some in
    let kept = keep_range _ c.self.inside.bytes.items c.read_once-got.new.room c.self.inside.start c.self.inside.end high written in
    rw c.in_default.is (c.in_default.ensures.bytes, kept ∙ held)
