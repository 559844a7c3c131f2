-- The numbers of a piece fit a text.
use Rattle.decimal.specs.Decimal.{field}
use Rattle.caselines.proofs.PieceLaws.{piece-there, piece_whole}
use borrow.Author.Rules.{rules}
use Rattle.caselines.proofs.outputs.piece.Goals as goal

pub slice_bounds-append_numbers-end : goal.slice_bounds-append_numbers-end
slice_bounds-append_numbers-end g c = search (rules, piece-there)

pub returns : goal.returns
returns g c = λ f e. piece_whole _ c.piece_length-n.ensures (λ x. field (f x)) c.empty-nothing.ensures (c.append_numbers.ensures f e)
