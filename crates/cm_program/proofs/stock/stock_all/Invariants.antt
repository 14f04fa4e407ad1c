use Rattle.std.proofs.Common.{◌≡◌, []}
use Rattle.cm_program.specs.Stock.{stock_of}
use Rattle.cm_program.proofs.stock.stock_all.Given as goal

abbrev pub invariant-loop-block : goal.invariant-loop-block
invariant-loop-block l = stock_of l.repository l.block-iterator.rest.items ≡ stock_of [] l.fn.blocks
