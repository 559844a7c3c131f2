-- The fields are read at their places.
use Prim.Native.Nat.{ℕ, ◌+◌, ◌*◌}
use mathlib.Core.Path.{◌∙◌, ap}
use Rattle.numbers.specs.Rows.{row}
use Rattle.wire.specs.Bytes.{word_at}
use Rattle.form.proofs.decode.Goals as goal

pub returns : goal.returns
returns c =
    let a = c.args in
    let e = c.size-n.ensures.0 ∙ c.byte.ensures in
    λ i. record {
      n = e i;
      m = (c.size-m.ensures.0 ∙ c.byte-2.ensures) i;
      charge = a.charge;
      periods = (c.words-periods.ensures ∙ ap (λ (n : ℕ). row 0 n (word_at a.s.now a.lead)) e) i;
      budgets = (c.words-budgets.ensures ∙ ap (λ (n : ℕ). row 0 n (word_at a.s.now (a.lead + 4 * n))) e) i;
      affinity = a.affinity;
      given = a.given;
    }
