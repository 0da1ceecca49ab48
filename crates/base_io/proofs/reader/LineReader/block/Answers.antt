use Rattle.std.proofs.Common.{[], refl, sym, ap, subst, arith}
use Rattle.base_io.specs.Held.{Held}
use Rattle.base_io.specs.Reader.{IsPartOfBlock, Moves}
use Rattle.base_io.proofs.Giving.{Moves-none}
use Rattle.base_io.proofs.reader.LineReader.block.Goals as goal

pub loop-self-init : goal.loop-self-init
loop-self-init g c =
    let left = g.S.Source.left c.args.source.now in
    record {
      same = refl;
      later = omega arith;
      wanted = refl;
      moves = subst (λ (h : Held). Moves (IsPartOfBlock c.args.k) c.args.self.now h left left []) (sym c.self.view_is)
          (Moves-none (IsPartOfBlock c.args.k) c.args.self.now left (omega (arith, ap (λ (h : Held). h.given) c.self.view_is, c.self.invariant)) c.requires);
    }
