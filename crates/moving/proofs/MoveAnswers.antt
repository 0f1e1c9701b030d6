-- What a move answers and leaves in its target, by the tests that the code makes: the lengths, what the scan of the source says, and the write sets
-- of the entries that it finds.
use Prim.Native.Nat.{ℕ, ◌-◌, ◌<◌, ◌≤◌}
use mathlib.Core.Path.{◌≡◌, refl, sym, ap, ◌∙◌}
use mathlib.Core.Logic.{◌≢◌, ◌⊎◌, inl, inr}
use mathlib.Core.Bool.{Bool, true, false, cond}
use mathlib.Core.List.{List, [], ◌∷◌, ◌++◌, map}
use lib.Dec.{ltb}
use lib.ListN.{length, take, replicate, get_or-map}
use lib.Seq.{length-take-le}
use native.Mathlib.Omega.{arith}
use borrow.Author.Tests.{eq-eqb, ne_eqb, lt-ltb, le-ltb, ltb-true, ltb-false}
use Rattle.model.specs.declared as machine
use Rattle.model.specs.Types.{Entry, Outcome}
use Rattle.model.specs.declared.Answer.TheVariants as A
use Rattle.model.specs.Lists.{◌or◌, any, count, padded}
use Rattle.model.specs.Limits.{entry_places}
use Rattle.model.specs.Kinds.{Kind, store_size}
use Rattle.model.specs.KeySets.{key_set}
use Rattle.model.specs.Listed.{listed_entries, listed_outcome}
use Rattle.model.specs.Entries.{no_entry}
use Rattle.model.specs.Stations.{idle_station, empty_station}
use Rattle.model.specs.Slots.{Seen, free, committed, damaged}
use Rattle.model.specs.Effects.{outcome_of, says, refusals, wrong_length}
use Rattle.model.specs.Scan.{slots_seen, entry_seen, entries_seen, is_committed, lowest_broken, scanned, scan}
use Rattle.model.specs.Moves.{too_wide, moved_slots, moved, Move, unmoved, move}
use Rattle.model.proofs.ListLaws.{any-yes, any-no, any-none-of, get_or-all}
use Rattle.model.proofs.ScanLaws.{seen-length, lowest-keeps}
use Rattle.model.proofs.MoveRows.{move-finished}

-- ── write sets among entries: the machine's, and those of the slots seen ──
abbrev pub many-keys : ℕ → machine.Entry.Entry → Bool
many-keys n e = ltb n (length (key_set e.keys))

pub sets-wide : (κ : Kind) (es : List machine.Entry.Entry) → any (many-keys κ.write_limit) es ≡ any (too_wide κ) (map committed (listed_entries es))
unfolding any too_wide
sets-wide κ [] = refl
sets-wide κ (e ∷ es) = ap (λ (b : Bool). elim (many-keys κ.write_limit e) [ true ↦ true | false ↦ b ]) (sets-wide κ es)

unused-narrow : (κ : Kind) → too_wide κ (committed no_entry) ≡ false
unfolding too_wide
unused-narrow κ = le-ltb κ.write_limit 0 (omega arith)

unused-none : (κ : Kind) (n : ℕ) → any (too_wide κ) (map committed (replicate n no_entry)) ≡ false
unused-none κ n = any-none-of (too_wide κ) (map committed (replicate n no_entry)) (committed no_entry)
    (λ j o. ap (too_wide κ) (get_or-map committed (replicate n no_entry) j no_entry ∙ ap committed (get_or-all n j no_entry)) ∙ unused-narrow κ)

entry-wide : (κ : Kind) (x : Seen) → too_wide κ (committed (entry_seen x)) ≡ too_wide κ x
entry-wide κ free = unfold entry_seen in (unused-narrow κ ∙ (unfold too_wide in refl))
entry-wide κ (committed e) = unfold entry_seen in refl
entry-wide κ damaged = unfold entry_seen in (unused-narrow κ ∙ (unfold too_wide in refl))

seen-wide : (κ : Kind) (ys : List Entry) → any (too_wide κ) (map committed ys) ≡ false → (xs : List Seen) → any (too_wide κ) (map committed (map entry_seen xs ++ ys)) ≡ any (too_wide κ) xs
unfolding any
seen-wide κ ys h [] = h
seen-wide κ ys h (x ∷ xs) = go (too_wide κ x) refl (seen-wide κ ys h xs)
  where
    rest : List Seen
    rest = map committed (map entry_seen xs ++ ys)

    go : (b : Bool) → too_wide κ x ≡ b → any (too_wide κ) rest ≡ any (too_wide κ) xs → any (too_wide κ) (committed (entry_seen x) ∷ rest) ≡ any (too_wide κ) (x ∷ xs)
    go true e ih = any-yes (too_wide κ) (committed (entry_seen x)) rest (entry-wide κ x ∙ e) ∙ sym (any-yes (too_wide κ) x xs e)
    go false e ih = any-no (too_wide κ) (committed (entry_seen x)) rest (entry-wide κ x ∙ e) ∙ (ih ∙ sym (any-no (too_wide κ) x xs e))

pub entries-wide : (κ : Kind) (xs : List Seen) → any (too_wide κ) (map committed (entries_seen xs)) ≡ any (too_wide κ) xs
unfolding entries_seen padded
entries-wide κ xs = seen-wide κ (replicate (entry_places - length (map entry_seen xs)) no_entry) (unused-none κ (entry_places - length (map entry_seen xs))) xs

-- ── the rows ──
module _ (κ κ' : Kind) (s t : List ℕ) where
  abbrev xs : List Seen
  xs = slots_seen κ s

  pub move-1-source : length s ≢ store_size κ → move κ κ' s t ≡ unmoved 1 0 t
  unfolding move wrong_length ◌or◌
  move-1-source h = rw (ne_eqb (length s) (store_size κ) h)

  module _ (l : length s ≡ store_size κ) where
    pub move-1-target : length t ≢ store_size κ' → move κ κ' s t ≡ unmoved 1 0 t
    unfolding move wrong_length ◌or◌
    move-1-target h = rw (eq-eqb (length s) (store_size κ) l, ne_eqb (length t) (store_size κ') h)

    module _ (m : length t ≡ store_size κ') where
      pub move-18 : lowest_broken xs < length xs → move κ κ' s t ≡ unmoved 18 (lowest_broken xs) t
      unfolding move wrong_length ◌or◌
      move-18 h = rw (eq-eqb (length s) (store_size κ) l, eq-eqb (length t) (store_size κ') m, lt-ltb (lowest_broken xs) (length xs) h)

      module _ (h : length xs ≤ lowest_broken xs) where
        pub move-22 : κ'.slots < count is_committed xs → move κ κ' s t ≡ unmoved 22 0 t
        unfolding move wrong_length ◌or◌
        move-22 o = rw (eq-eqb (length s) (store_size κ) l, eq-eqb (length t) (store_size κ') m, le-ltb (lowest_broken xs) (length xs) h, lt-ltb κ'.slots (count is_committed xs) o)

        module _ (o : count is_committed xs ≤ κ'.slots) where
          pub move-23 : any (too_wide κ') xs ≡ true → move κ κ' s t ≡ unmoved 23 0 t
          unfolding move wrong_length ◌or◌
          move-23 w = rw (eq-eqb (length s) (store_size κ) l, eq-eqb (length t) (store_size κ') m, le-ltb (lowest_broken xs) (length xs) h, le-ltb κ'.slots (count is_committed xs) o, w)

          pub move-made : any (too_wide κ') xs ≡ false → move κ κ' s t ≡ record { answer = A.Moved (count is_committed xs); target = moved κ κ' s }
          move-made w = move-finished κ κ' s t (record { source = l; target = m; rules = lowest-keeps κ s (omega (arith, h, seen-length κ s)); room = o; narrow = w })

-- the committed slots, and zeros after them
pub target-made : (κ κ' : Kind) (s u v : List ℕ) (r : ℕ) → length u ≡ store_size κ' → r ≤ length u → take r u ≡ moved_slots κ κ' s 0 (slots_seen κ s) → v ≡ take r u ++ replicate (length u - r) 0 → v ≡ moved κ κ' s
unfolding moved padded
target-made κ κ' s u v r l o f g =
    let e : length u - r ≡ store_size κ' - length (moved_slots κ κ' s 0 (slots_seen κ s)) = omega (arith, l, sym (ap length f) ∙ length-take-le r u o) in
    g ∙ (ap (λ (x : List ℕ). x ++ replicate (length u - r) 0) f ∙ ap (λ (n : ℕ). moved_slots κ κ' s 0 (slots_seen κ s) ++ replicate n 0) e)

-- an answer and the target at exit
pub handed : (m m' : Move) → m ≡ m' → (m'.answer ≡ m.answer) × (m'.target ≡ m.target)
handed m m' e = (ap (λ (x : Move). x.answer) (sym e), ap (λ (x : Move). x.target) (sym e))

-- ── what the scan of the source says ──
module _ (κ : Kind) (s : List ℕ) (l : length s ≡ store_size κ) (out : machine.Outcome.Outcome) (q : listed_outcome out ≡ outcome_of (scan κ s)) where
  abbrev seens : List Seen
  seens = slots_seen κ s

  -- nothing breaks the rules, and n slots are committed
  pub record Finds (n : ℕ) : Type 0 where
    pub unbroken : length seens ≤ lowest_broken seens
    pub counted : n ≡ count is_committed seens
    pub entries : listed_entries out.station.entries ≡ entries_seen seens

  pub record Refuses : Type 0 where
    pub broken : lowest_broken seens < length seens
    pub answer : out.answer ≡ A.Refused 18 (lowest_broken seens)

  scan-is : scan κ s ≡ scanned κ seens
  unfolding scan refusals wrong_length
  scan-is = rw (eq-eqb (length s) (store_size κ) l)

  found-or : Refuses ⊎ ((out.answer ≡ A.Found (count is_committed seens)) × Finds (count is_committed seens))
  unfolding scanned outcome_of says
  found-or = go (ltb (lowest_broken seens) (length seens)) refl (q ∙ ap outcome_of scan-is)
    where
      go : (b : Bool) → ltb (lowest_broken seens) (length seens) ≡ b
          → listed_outcome out ≡ outcome_of (cond (ltb (lowest_broken seens) (length seens)) (says (A.Refused 18 (lowest_broken seens)) (empty_station κ)) (says (A.Found (count is_committed seens)) (idle_station κ (entries_seen seens))))
          → Refuses ⊎ ((out.answer ≡ A.Found (count is_committed seens)) × Finds (count is_committed seens))
      go true h e = inl (record { broken = ltb-true (lowest_broken seens) (length seens) h; answer = ap (λ (o : Outcome). o.answer) (rw h at e) })
      go false h e =
          let f = rw h at e in
          inr (ap (λ (o : Outcome). o.answer) f, record { unbroken = ltb-false (lowest_broken seens) (length seens) h; counted = refl; entries = ap (λ (o : Outcome). o.station.entries) f })

  found_number : (m n : ℕ) → A.Found m ≡ A.Found n → m ≡ n
  found_number m n h = cc

  refused≢found : (m d n : ℕ) → A.Refused m d ≢ A.Found n
  refused≢found m d n h = let z : ◌≡◌ {A = ℕ} 0 1 = cc in omega arith

  pub scan-found : (n : ℕ) → out.answer ≡ A.Found n → Finds n
  scan-found n h = go found-or
    where
      go : Refuses ⊎ ((out.answer ≡ A.Found (count is_committed seens)) × Finds (count is_committed seens)) → Finds n
      go (inl r) = absurd (refused≢found 18 (lowest_broken seens) n (sym r.answer ∙ h))
      go (inr (a, f)) = record { unbroken = f.unbroken; counted = found_number n (count is_committed seens) (sym h ∙ a); entries = f.entries }

  -- any other answer
  pub scan-refuses : ((n : ℕ) → out.answer ≡ A.Found n → ⊥) → Refuses
  scan-refuses h = go found-or
    where
      go : Refuses ⊎ ((out.answer ≡ A.Found (count is_committed seens)) × Finds (count is_committed seens)) → Refuses
      go (inl r) = r
      go (inr (a, f)) = absurd (h (count is_committed seens) a)
