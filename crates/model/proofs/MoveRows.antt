-- 02 §6: what a move answers (specs/Moves): its refusals, a row each, and when none applies.
use Prim.Native.Nat.{ℕ, ◌<◌, ◌≤◌}
use mathlib.Core.Path.{◌≡◌, refl, sym, ◌∙◌}
use mathlib.Core.Logic.{◌≢◌}
use mathlib.Core.Bool.{true, false, true≢false}
use mathlib.Core.List.{List}
use lib.Dec.{eqb, ltb, lit<}
use lib.ListN.{length, get_or}
use native.Mathlib.Nat.{lt_irrefl, suc-ne-zero}
use native.Mathlib.Omega.{arith}
use borrow.Author.Tests.{eqb-true, eq-eqb, ltb-true, ltb-false, eqb-false, le-ltb, not-false}
use Rattle.model.specs.declared.Answer.TheVariants as A
use Rattle.model.specs.Lists.{◌or◌, any, count}
use Rattle.model.specs.Kinds.{Kind, narrow_kind, wide_kind, store_size}
use Rattle.model.specs.Entries.{keys_of}
use Rattle.model.specs.Slots.{Seen, free, committed, damaged, seen}
use Rattle.model.specs.Effects.{wrong_length}
use Rattle.model.specs.Scan.{slots_seen, is_committed, lowest_broken}
use Rattle.model.specs.Answers.{refused_with}
use Rattle.model.specs.Moves.{moved, Move, unmoved, too_wide, move, move_out, move_back}
use Rattle.model.proofs.Tests.{or_left, or_right, or-none, not-of-true}
use Rattle.model.proofs.RefusalLaws.{cond-rule}
use Rattle.model.proofs.ListLaws.{any-none-of, count_most}
use Rattle.model.proofs.SlotLaws.{rules-count, committed-rules}
use Rattle.model.proofs.ScanLaws.{seen-length, seen_at, KeepsRules, keeps-lowest, lowest-keeps}

-- ── a move that is not refused ──
pub record Accepts (κ κ' : Kind) (s t : List ℕ) : Type 0 where
  pub source : length s ≡ store_size κ
  pub target : length t ≡ store_size κ'
  pub rules : KeepsRules κ s
  pub room : count is_committed (slots_seen κ s) ≤ κ'.slots
  pub narrow : any (too_wide κ') (slots_seen κ s) ≡ false

right-length : (κ : Kind) (s : List ℕ) → wrong_length κ s ≡ false → length s ≡ store_size κ
unfolding wrong_length
right-length κ s h = eqb-true (length s) (store_size κ) (not-false _ h)

length-right : (κ : Kind) (s : List ℕ) → length s ≡ store_size κ → wrong_length κ s ≡ false
unfolding wrong_length
length-right κ s h = not-of-true _ (eq-eqb (length s) (store_size κ) h)

refused≢moved : (m d n : ℕ) → A.Refused m d ≢ A.Moved n
refused≢moved m d n h = let z : ◌≡◌ {A = ℕ} 0 1 = cc in omega arith

moved-number : (m n : ℕ) → A.Moved m ≡ A.Moved n → m ≡ n
moved-number m n h = cc

refused-number : (m c n d : ℕ) → A.Refused m c ≡ A.Refused n d → m ≡ n
refused-number m c n d h = cc

module _ (κ κ' : Kind) (s t : List ℕ) where
  abbrev xs : List Seen
  xs = slots_seen κ s

  abbrev pub finished : Move
  finished = record { answer = A.Moved (count is_committed xs); target = moved κ κ' s }

  -- a property of each of its five ends
  pub move-cases : (P : Move → Type 0) → ((wrong_length κ s or wrong_length κ' t) ≡ true → P (unmoved 1 0 t)) → (lowest_broken xs < length xs → P (unmoved 18 (lowest_broken xs) t))
      → (κ'.slots < count is_committed xs → P (unmoved 22 0 t)) → (any (too_wide κ') xs ≡ true → P (unmoved 23 0 t)) → (Accepts κ κ' s t → P finished) → P (move κ κ' s t)
  unfolding move
  move-cases P f₁ f₁₈ f₂₂ f₂₃ f =
      cond-rule P (wrong_length κ s or wrong_length κ' t) _ _ f₁ (λ e₁.
      cond-rule P (ltb (lowest_broken xs) (length xs)) _ _ (λ e. f₁₈ (ltb-true (lowest_broken xs) (length xs) e)) (λ e₂.
      cond-rule P (ltb κ'.slots (count is_committed xs)) _ _ (λ e. f₂₂ (ltb-true κ'.slots (count is_committed xs) e)) (λ e₃.
      cond-rule P (any (too_wide κ') xs) _ _ f₂₃ (λ e₄. f (record {
        source = right-length κ s (or_left _ _ e₁);
        target = right-length κ' t (or_right _ _ e₁);
        rules = lowest-keeps κ s (omega (arith, ltb-false (lowest_broken xs) (length xs) e₂, seen-length κ s));
        room = ltb-false κ'.slots (count is_committed xs) e₃;
        narrow = e₄;
      })))))

  pub move-finished : Accepts κ κ' s t → move κ κ' s t ≡ finished
  unfolding move
  move-finished a = rw (
    or-none _ _ (length-right κ s a.source) (length-right κ' t a.target),
    le-ltb (lowest_broken xs) (length xs) (omega (arith, keeps-lowest κ s a.rules)),
    le-ltb κ'.slots (count is_committed xs) a.room,
    a.narrow,
  )

  -- ── by the answer ──
  pub record Told (n : ℕ) (m : Move) : Type 0 where
    pub accepts : Accepts κ κ' s t
    pub counted : n ≡ count is_committed xs
    pub writes : m.target ≡ moved κ κ' s

  pub move-told : (n : ℕ) → (move κ κ' s t).answer ≡ A.Moved n → Told n (move κ κ' s t)
  move-told n = move-cases P (λ e. refused 1 0) (λ o. refused 18 (lowest_broken xs)) (λ o. refused 22 0) (λ e. refused 23 0)
      (λ a h. record { accepts = a; counted = sym (moved-number _ n h); writes = refl })
    where
      P : Move → Type 0
      P m = m.answer ≡ A.Moved n → Told n m

      refused : (m d : ℕ) → P (unmoved m d t)
      refused m d h = absurd (refused≢moved m d n h)

  pub unrefused-moves : refused_with (move κ κ' s t).answer ≡ 0 → (n : ℕ) × ((move κ κ' s t).answer ≡ A.Moved n)
  unfolding refused_with
  unrefused-moves = move-cases P (λ e h. absurd (suc-ne-zero 0 h)) (λ o h. absurd (suc-ne-zero 17 h)) (λ o h. absurd (suc-ne-zero 21 h)) (λ e h. absurd (suc-ne-zero 22 h)) (λ a h. (count is_committed xs, refl))
    where
      P : Move → Type 0
      P m = refused_with m.answer ≡ 0 → (n : ℕ) × (m.answer ≡ A.Moved n)

  -- a refusal alters no byte of the target
  pub refused-unmoved : (n d : ℕ) → (move κ κ' s t).answer ≡ A.Refused n d → (move κ κ' s t).target ≡ t
  refused-unmoved n d = move-cases P (λ e h. refl) (λ o h. refl) (λ o h. refl) (λ e h. refl) (λ a h. absurd (refused≢moved n d (count is_committed xs) (sym h)))
    where
      P : Move → Type 0
      P m = m.answer ≡ A.Refused n d → m.target ≡ t

  -- ── which refusals are never met ──
  -- 23 into a kind that takes as many keys
  pub never-23 : κ.write_limit ≤ κ'.write_limit → (d : ℕ) → (move κ κ' s t).answer ≢ A.Refused 23 d
  never-23 o d = move-cases P (λ e. other 1 0 refl) (λ u. other 18 (lowest_broken xs) refl) (λ u. other 22 0 refl) (λ e. absurd (true≢false (sym e ∙ narrow))) (λ a h. refused≢moved 23 d (count is_committed xs) (sym h))
    where
      P : Move → Type 0
      P m = m.answer ≢ A.Refused 23 d

      other : (m c : ℕ) → eqb m 23 ≡ false → A.Refused m c ≢ A.Refused 23 d
      other m c e h = eqb-false m 23 e (refused-number m c 23 d h)

      within : (i : ℕ) (x : Seen) → seen κ s i ≡ x → too_wide κ' x ≡ false
      within i free h = unfold too_wide in refl
      within i (committed e) h = unfold too_wide in le-ltb κ'.write_limit (length (keys_of e)) (omega (arith, rules-count κ e (committed-rules κ s i e h)))
      within i damaged h = unfold too_wide in refl

      narrow : any (too_wide κ') xs ≡ false
      narrow = any-none-of (too_wide κ') xs free (λ i u. within i (get_or xs i free) (sym (seen_at κ s i free (omega (arith, seen-length κ s)))))

  -- 22 into a kind of as many slots
  pub never-22 : κ.slots ≤ κ'.slots → (d : ℕ) → (move κ κ' s t).answer ≢ A.Refused 22 d
  never-22 o d = move-cases P (λ e. other 1 0 refl) (λ u. other 18 (lowest_broken xs) refl)
      (λ u. absurd (lt_irrefl κ.slots (omega (arith, count_most is_committed xs, seen-length κ s)))) (λ e. other 23 0 refl) (λ a h. refused≢moved 22 d (count is_committed xs) (sym h))
    where
      P : Move → Type 0
      P m = m.answer ≢ A.Refused 22 d

      other : (m c : ℕ) → eqb m 22 ≡ false → A.Refused m c ≢ A.Refused 22 d
      other m c e h = eqb-false m 22 e (refused-number m c 22 d h)

-- "22: more than 32 committed drawers .. 23: on the way back a write set above 8": each belongs to one way
pub out-never-23 : (s t : List ℕ) (d : ℕ) → (move_out s t).answer ≢ A.Refused 23 d
out-never-23 s t d = never-23 narrow_kind wide_kind s t (lit< tt) d

pub back-never-22 : (s t : List ℕ) (d : ℕ) → (move_back s t).answer ≢ A.Refused 22 d
back-never-22 s t d = never-22 wide_kind narrow_kind s t (lit< tt) d
