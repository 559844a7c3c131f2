-- The steps of the functions that write a table: piece after piece from the front.
use Prim.Native.Nat.{ℕ, ◌+◌, ◌*◌, ◌≤◌}
use mathlib.Core.Path.{◌≡◌, refl, ◌∙◌, ap}
use mathlib.Core.List.{List, [], ◌∷◌, ◌++◌, append_assoc}
use lib.ListN.{length, take, drop, set, length-append}
use native.Mathlib.Omega.{arith}
use Rattle.wire.specs.Bytes.{bytes_of_all, over}
use Rattle.wire.proofs.WriteBackLaws.{front_long, front_bytes}
use Rattle.wire.proofs.LentLaws.{over-two, over_four, over-front, over_next, length_over}
use Rattle.fields.specs.Limits.{Within}
use Rattle.fields.specs.declared.Fields.{Fields}
use Rattle.fields.proofs.LimitLaws.{periods_there, budgets_there, affinity_there}
use Rattle.oldform.specs.Form.{old_bytes}
use Rattle.oldform.proofs.BackLaws.{old_long}
use Rattle.newform.specs.Form.{new_bytes}
use Rattle.newform.proofs.BackLaws.{new_long}

-- an output keeps its room
room_left : (l : List ℕ) {o : List ℕ} (us : List ℕ) {x : ℕ} → o ≡ over l 0 us → length us ≤ length l → x ≤ length l → x ≤ length o
room_left l us e h g = rw (e, length_over l 0 us (omega arith)) g

-- a piece behind those that stand in front
next_piece : (l : List ℕ) {o r : List ℕ} (us vs : List ℕ) {j : ℕ} → o ≡ over l 0 us → r ≡ over o j vs → length us ≡ j → j ≤ length l → r ≡ over l 0 (us ++ vs)
next_piece l us vs {j} e q p h = over_next l 0 j us vs e q (omega arith) (omega arith)

module _ (f : Fields) (w : Within f) (o : List ℕ) where
  abbrev P : List ℕ
  P = bytes_of_all (take f.n f.periods)

  abbrev B : List ℕ
  B = bytes_of_all (take f.n f.budgets)

  abbrev A : List ℕ
  A = take f.n f.affinity

  -- as many of each as there are tasks
  periods_count : length (take f.n f.periods) ≡ f.n
  periods_count = front_long f.periods (periods_there f w)

  budgets_count : length (take f.n f.budgets) ≡ f.n
  budgets_count = front_long f.budgets (budgets_there f w)

  affinity_count : length A ≡ f.n
  affinity_count = front_long f.affinity (affinity_there f w)

  periods_long : length P ≡ 4 * f.n
  periods_long = front_bytes f.periods (periods_there f w)

  budgets_long : length B ≡ 4 * f.n
  budgets_long = front_bytes f.budgets (budgets_there f w)

  -- The new form: the first four bytes, then the periods, the budgets and the core bytes.
  module _ (fits : 4 + 9 * f.n ≤ length o) where
    abbrev leading : List ℕ
    leading = set (set (set (set o 0 0) 1 f.n) 2 f.m) 3 f.charge

    lead : leading ≡ over o 0 (0 ∷ f.n ∷ f.m ∷ f.charge ∷ [])
    lead = over_four o 0 0 f.n f.m f.charge (omega arith)

    pub periods_room : 4 + 4 * length (take f.n f.periods) ≤ length leading
    periods_room = rw periods_count (room_left o (0 ∷ f.n ∷ f.m ∷ f.charge ∷ []) lead (omega arith) (omega arith))

    module _ {o2 : List ℕ} (e : o2 ≡ over leading 4 P) where
      with_periods : o2 ≡ over o 0 (0 ∷ f.n ∷ f.m ∷ f.charge ∷ P)
      with_periods = next_piece o (0 ∷ f.n ∷ f.m ∷ f.charge ∷ []) P lead e refl (omega arith)

      to_budgets : length (0 ∷ f.n ∷ f.m ∷ f.charge ∷ P) ≡ 4 + 4 * f.n
      to_budgets = omega (arith, periods_long)

      pub budgets_room : 4 + 4 * f.n + 4 * length (take f.n f.budgets) ≤ length o2
      budgets_room = rw budgets_count (room_left o (0 ∷ f.n ∷ f.m ∷ f.charge ∷ P) with_periods (omega (arith, to_budgets)) (omega arith))

      module _ {o3 : List ℕ} (g : o3 ≡ over o2 (4 + 4 * f.n) B) where
        with_budgets : o3 ≡ over o 0 (0 ∷ f.n ∷ f.m ∷ f.charge ∷ (P ++ B))
        with_budgets = next_piece o (0 ∷ f.n ∷ f.m ∷ f.charge ∷ P) B with_periods g to_budgets (omega arith)

        to_affinity : length (0 ∷ f.n ∷ f.m ∷ f.charge ∷ (P ++ B)) ≡ 4 + 8 * f.n
        to_affinity = omega (arith, length-append P B, periods_long, budgets_long)

        pub affinity_room : 4 + 8 * f.n + length A ≤ length o3
        affinity_room = rw affinity_count (room_left o (0 ∷ f.n ∷ f.m ∷ f.charge ∷ (P ++ B)) with_budgets (omega (arith, to_affinity)) (omega arith))

        module _ {o4 : List ℕ} (h : o4 ≡ over o3 (4 + 8 * f.n) A) where
          with_affinity : o4 ≡ over o 0 (new_bytes f)
          unfolding new_bytes
          with_affinity =
              next_piece o (0 ∷ f.n ∷ f.m ∷ f.charge ∷ (P ++ B)) A with_budgets h to_affinity (omega arith)
              ∙ ap (λ x. over o 0 (0 ∷ f.n ∷ f.m ∷ f.charge ∷ x)) (append_assoc P B A)

          pub new_put : o4 ≡ new_bytes f ++ drop (length (new_bytes f)) o
          new_put = with_affinity ∙ over-front o (new_bytes f)

          pub new-same : length o4 ≡ length o
          new-same = rw with_affinity (length_over o 0 (new_bytes f) (omega (arith, new_long f w)))

  -- The old form: the first two bytes, then the periods and the budgets.
  module _ (fits : 2 + 8 * f.n ≤ length o) where
    abbrev leading_two : List ℕ
    leading_two = set (set o 0 f.n) 1 f.m

    lead-two : leading_two ≡ over o 0 (f.n ∷ f.m ∷ [])
    lead-two = over-two o 0 f.n f.m (omega arith)

    pub old_periods_room : 2 + 4 * length (take f.n f.periods) ≤ length leading_two
    old_periods_room = rw periods_count (room_left o (f.n ∷ f.m ∷ []) lead-two (omega arith) (omega arith))

    module _ {o2 : List ℕ} (e : o2 ≡ over leading_two 2 P) where
      old_periods : o2 ≡ over o 0 (f.n ∷ f.m ∷ P)
      old_periods = next_piece o (f.n ∷ f.m ∷ []) P lead-two e refl (omega arith)

      old_to_budgets : length (f.n ∷ f.m ∷ P) ≡ 2 + 4 * f.n
      old_to_budgets = omega (arith, periods_long)

      pub old_budgets_room : 2 + 4 * f.n + 4 * length (take f.n f.budgets) ≤ length o2
      old_budgets_room = rw budgets_count (room_left o (f.n ∷ f.m ∷ P) old_periods (omega (arith, old_to_budgets)) (omega arith))

      module _ {o3 : List ℕ} (g : o3 ≡ over o2 (2 + 4 * f.n) B) where
        old_budgets : o3 ≡ over o 0 (old_bytes f)
        unfolding old_bytes
        old_budgets = next_piece o (f.n ∷ f.m ∷ P) B old_periods g old_to_budgets (omega arith)

        pub old_put : o3 ≡ old_bytes f ++ drop (length (old_bytes f)) o
        old_put = old_budgets ∙ over-front o (old_bytes f)

        pub old_same : length o3 ≡ length o
        old_same = rw old_budgets (length_over o 0 (old_bytes f) (omega (arith, old_long f w)))
