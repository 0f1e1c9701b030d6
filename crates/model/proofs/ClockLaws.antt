-- 02 §3: the clock that a closing transaction takes.
use Prim.Native.Nat.{ℕ, ◌+◌, ◌<◌, ◌≤◌, zero-le}
use mathlib.Core.Path.{◌≡◌, refl, sym, ap, subst, ◌∙◌}
use mathlib.Core.Logic.{◌≢◌, ⊎_elim}
use mathlib.Core.Bool.{Bool, true, false, true≢false}
use mathlib.Core.List.Memᴰ
use mathlib.Core.List.{List, [], ◌∷◌, map, Memᴰ}
use lib.Dec.{eqb}
use lib.ListN.{length}
use native.Mathlib.Decide.{dec_lt}
use native.Mathlib.Nat.{lt_irrefl}
use native.Mathlib.Omega.{arith}
use borrow.Author.Tests.{eqb-false, eq-eqb, ne_eqb}
use Rattle.model.specs.Types.{Station}
use Rattle.model.specs.Lists.{first, member, maximum}
use Rattle.model.specs.Limits.{number_range, last_clock}
use Rattle.model.specs.Lives.{closing_clock, live_beyond}
use Rattle.model.specs.Entries.{no_entry}
use Rattle.model.specs.Stations.{live_at, entry_at}
use Rattle.model.specs.Clocks.{entry_clock, live_clock, clocks, clock_above}
use Rattle.model.proofs.ListLaws.{get_or-mem, mem-get_or, any_none, member-finds, map-mem, mem-map}
use Rattle.model.proofs.StationLaws.{live_out, entry-out}

-- ── the greatest of a list ──
pub maximum-mem : (ns : List ℕ) (n : ℕ) → Memᴰ n ns → n ≤ maximum ns
unfolding maximum
maximum-mem [] n m = absurd (Memᴰ.not-nil m)
maximum-mem (x ∷ xs) n m = ⊎_elim (λ e. omega (arith, e)) (λ r. omega (arith, maximum-mem xs n r)) (Memᴰ.cases_cons m)

pub maximum-most : (ns : List ℕ) (b : ℕ) → ((n : ℕ) → Memᴰ n ns → n ≤ b) → maximum ns ≤ b
unfolding maximum
maximum-most [] b f = zero-le
maximum-most (x ∷ xs) b f = omega (arith, f x (Memᴰ.head refl), maximum-most xs b (λ n m. f n (Memᴰ.tail m)))

-- it is in the list, unless it is 0
maximum-in : (ns : List ℕ) → maximum ns ≢ 0 → Memᴰ (maximum ns) ns
unfolding maximum
maximum-in [] n = absurd (n refl)
maximum-in (x ∷ xs) n = go (dec_lt x (maximum xs)) (maximum-in xs)
  where
    go : Dec (x < maximum xs) → (maximum xs ≢ 0 → Memᴰ (maximum xs) xs) → Memᴰ (maximum (x ∷ xs)) (x ∷ xs)
    go (yes o) ih = let e : maximum (x ∷ xs) ≡ maximum xs = omega arith in rw e (Memᴰ.tail (ih (omega arith)))
    go (no o) ih = let e : maximum (x ∷ xs) ≡ x = omega arith in Memᴰ.head e

-- among numbers up to b one is b where the greatest is
pub greatest-is : (ns : List ℕ) (b : ℕ) → b ≢ 0 → maximum ns ≤ b → eqb (maximum ns) b ≡ member b ns
unfolding member
greatest-is ns b z o = go (member b ns) refl
  where
    go : (x : Bool) → member b ns ≡ x → eqb (maximum ns) b ≡ x
    go true h =
        let r = member-finds b ns h in
        eq-eqb (maximum ns) b (omega (arith, o, maximum-mem ns b (subst (λ (n : ℕ). Memᴰ n ns) r.1 (get_or-mem ns (first (eqb b) ns) 0 r.0))))
    go false h = ne_eqb (maximum ns) b (λ e. true≢false (sym (eq-eqb b b refl) ∙ any_none (eqb b) ns h b (subst (λ (n : ℕ). Memᴰ n ns) e (maximum-in ns (λ y. z (sym e ∙ y))))))

-- ── the clock taken ──
pub last-clock : last_clock + 1 ≡ number_range
last-clock = refl

module _ (c : ℕ) (taken : List ℕ) where
  pub clock-least : c ≤ clock_above c taken
  unfolding clock_above
  clock-least = omega arith

  pub clock-real : clock_above c taken ≢ 0
  unfolding clock_above
  clock-real e = lt_irrefl 0 (omega arith)

  pub clock-above : (n : ℕ) → Memᴰ n taken → n < clock_above c taken
  unfolding clock_above
  clock-above n m = omega (arith, maximum-mem taken n m)

  -- while the last clock is not taken there is a next one
  pub clock-below : c < number_range → ((n : ℕ) → Memᴰ n taken → n < number_range) → member last_clock taken ≡ false → clock_above c taken < number_range
  unfolding clock_above member
  clock-below o f h = omega (arith, o, maximum-most taken 18446744073709551614 (λ n m. omega (arith, f n m, eqb-false last_clock n (any_none (eqb last_clock) taken h n m))))

-- ── of a station ──
module _ (st : Station) where
  pub entry-clock : (d : ℕ) → d < length st.entries → Memᴰ (entry_at st d).id.clock (clocks st)
  unfolding clocks entry_at
  entry-clock d o = Memᴰ.append_left {s = map entry_clock st.entries} (map live_clock st.live) (map-mem entry_clock st.entries _ (get_or-mem st.entries d no_entry o))

  pub live-clock : (i : ℕ) → i < length st.live → Memᴰ (closing_clock (live_at st i).phase) (clocks st)
  unfolding clocks live_at
  live-clock i o = Memᴰ.append_right (map entry_clock st.entries) (map-mem live_clock st.live _ (get_or-mem st.live i live_beyond o))

  -- and no others: what holds of each holds of all
  pub clock-by : (P : ℕ → Type 0) → ((d : ℕ) → d < length st.entries → P (entry_at st d).id.clock) → ((i : ℕ) → i < length st.live → P (closing_clock (live_at st i).phase))
      → (n : ℕ) → Memᴰ n (clocks st) → P n
  unfolding clocks entry_at live_at
  clock-by P f g n m = ⊎_elim
      (λ x. let y = mem-map entry_clock st.entries n x in let r = mem-get_or st.entries y.0 no_entry y.1 in subst P (ap entry_clock r.2 ∙ y.2) (f r.0 r.1))
      (λ x. let y = mem-map live_clock st.live n x in let r = mem-get_or st.live y.0 live_beyond y.1 in subst P (ap live_clock r.2 ∙ y.2) (g r.0 r.1))
      (Memᴰ.append_cases (map entry_clock st.entries) m)

  -- what lies past the last slot or place has the clock 0
  pub entry-below : (n d : ℕ) → n ≢ 0 → ((m : ℕ) → Memᴰ m (clocks st) → m < n) → (entry_at st d).id.clock < n
  entry-below n d z f = go (dec_lt d (length st.entries))
    where
      go : Dec (d < length st.entries) → (entry_at st d).id.clock < n
      go (yes o) = f _ (entry-clock d o)
      go (no o) = rw (entry-out st d (omega arith)) (omega (arith, z))

  pub live_below : (n i : ℕ) → n ≢ 0 → ((m : ℕ) → Memᴰ m (clocks st) → m < n) → closing_clock (live_at st i).phase < n
  unfolding closing_clock
  live_below n i z f = go (dec_lt i (length st.live))
    where
      go : Dec (i < length st.live) → closing_clock (live_at st i).phase < n
      go (yes o) = f _ (live-clock i o)
      go (no o) = rw (live_out st i (omega arith)) (omega (arith, z))

-- ── a clock that is taken: at least the one given, above every entry's and every closing transaction's, and below 2^64 ──
pub record Taken (st : Station) (given c : ℕ) : Type 0 where
  pub least : given ≤ c
  pub entries : (d : ℕ) → (entry_at st d).id.clock < c
  pub closing : (i : ℕ) → closing_clock (live_at st i).phase < c
  pub low : c < number_range

pub taken : (st : Station) (c : ℕ) → c < number_range → ((n : ℕ) → Memᴰ n (clocks st) → n < number_range) → member last_clock (clocks st) ≡ false → Taken st c (clock_above c (clocks st))
taken st c o f h = record {
  least = clock-least c (clocks st);
  entries = λ d. entry-below st _ d (clock-real c (clocks st)) (clock-above c (clocks st));
  closing = λ i. live_below st _ i (clock-real c (clocks st)) (clock-above c (clocks st));
  low = clock-below c (clocks st) o f h;
}
