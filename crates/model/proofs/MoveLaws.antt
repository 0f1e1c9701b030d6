-- 02 §6: what a move that is not refused makes of its target. It goes by the source alone; a scan of it finds the committed slots of the source in
-- order; and moved out and back and out again, the same bytes come.
use Prim.Native.Nat.{ℕ, suc, ◌+◌, ◌*◌, ◌-◌, ◌<◌, ◌≤◌}
use mathlib.Core.Path.{◌≡◌, refl, sym, ap, ap₂, subst, ◌∙◌}
use mathlib.Core.List.{List, ◌++◌, map}
use lib.ListN.{length, take, drop, get_or, replicate, length-map}
use native.Mathlib.Nat.{mul-le-mul_left}
use native.Mathlib.Omega.{arith}
use Rattle.model.specs.Types.{Entry}
use Rattle.model.specs.declared.Answer.TheVariants as A
use Rattle.model.specs.Lists.{any, filter, count, from, padded}
use Rattle.model.specs.Limits.{record_size}
use Rattle.model.specs.Kinds.{Kind, slot_size, store_size, KindFits}
use Rattle.model.specs.Ranges.{Every}
use Rattle.model.specs.Entries.{keys_of}
use Rattle.model.specs.Records.{record_at}
use Rattle.model.specs.Slots.{Seen, free, committed, seen}
use Rattle.model.specs.Stations.{idle_station}
use Rattle.model.specs.Effects.{Effect, says}
use Rattle.model.specs.Scan.{slots_seen, entries_seen, is_committed, scan}
use Rattle.model.specs.Moves.{moved, Move, too_wide, move}
use Rattle.model.proofs.ListLaws.{count_most}
use Rattle.model.proofs.DistinctLaws.{distinct-at}
use Rattle.model.proofs.InsertLaws.{padded-length}
use Rattle.model.proofs.SlotLaws.{rules-txn, committed-rules}
use Rattle.model.proofs.ScanLaws.{seen-length, seen_at, KeepsRules, scan-finds}
use Rattle.model.proofs.HeldLaws.{held_by, contents-count, contents-seen, held-fit, fit-within, held-distinct, contents-at, committed-below}
use Rattle.model.proofs.LaidLaws.{slots-long, slots-seen, slots-contents, laid-undamaged, laid-at, laid-beyond, laid-nth, laid-below, laid-count, laid-narrow}
use Rattle.model.proofs.MoveRows.{Accepts, Told, move-finished, move-told}
use Rattle.model.proofs.ContentLaws.{no_content, txn_in, Content, content_of, contents, slots_for, moved-slots, Fit, nth-version, seen_as}

-- what a move writes, by what the source holds
pub moved_by : (κ κ' : Kind) (s : List ℕ) → moved κ κ' s ≡ padded 0 (store_size κ') (slots_for κ' (held_by κ s))
unfolding moved
moved_by κ κ' s = ap (padded 0 (store_size κ')) (moved-slots κ κ' s 0 (slots_seen κ s))

module _ (κ κ' : Kind) (s t : List ℕ) (φ : KindFits κ') (a : Accepts κ κ' s t) where
  abbrev held : List Content
  held = held_by κ s

  -- the target's slots past them
  abbrev past : ℕ
  past = κ'.slots - length held

  -- and its bytes there
  abbrev zeros : ℕ
  zeros = store_size κ' - length (slots_for κ' held)

  fit : Every (Fit κ') held
  fit = fit-within κ s κ' 0 (slots_seen κ s) a.narrow (held-fit κ s a.source)

  few : length held ≤ κ'.slots
  few = omega (arith, contents-count κ s 0 (slots_seen κ s), a.room)

  laid : moved κ κ' s ≡ slots_for κ' held ++ replicate zeros 0
  unfolding padded
  laid = moved_by κ κ' s

  pub moved-long : length (moved κ κ' s) ≡ store_size κ'
  moved-long = ap length (moved_by κ κ' s) ∙ padded-length 0 (store_size κ') (slots_for κ' held) (omega (arith, slots-long κ' φ held fit, mul-le-mul_left (slot_size κ') few))

  seen-laid : slots_seen κ' (moved κ κ' s) ≡ map seen_as held ++ replicate past free
  unfolding slots_seen
  seen-laid = ap (λ (n : ℕ). from n 0 (seen κ' (moved κ κ' s))) q ∙ (ap (λ (x : List ℕ). from (length held + past) 0 (seen κ' x)) laid ∙ slots-seen κ' φ held fit past zeros)
    where
      q : κ'.slots ≡ length held + past
      q = omega (arith, few)

  -- it holds the same
  pub held_same : held_by κ' (moved κ κ' s) ≡ held
  held_same = ap (contents κ' (moved κ κ' s) 0) seen-laid ∙ (ap (λ (x : List ℕ). contents κ' x 0 (map seen_as held ++ replicate past free)) laid ∙ slots-contents κ' φ held fit past zeros)

  -- "committed drawers in order fill wide drawers from 0"; the rest are free
  pub seen-moved : slots_seen κ' (moved κ κ' s) ≡ padded free κ'.slots (filter is_committed (slots_seen κ s))
  unfolding padded
  seen-moved = seen-laid ∙ (ap (λ (n : ℕ). map seen_as held ++ replicate (κ'.slots - n) free) (sym (length-map held seen_as)) ∙ ap (padded free κ'.slots) (contents-seen κ s 0 (slots_seen κ s)))

  count-moved : count is_committed (slots_seen κ' (moved κ κ' s)) ≡ count is_committed (slots_seen κ s)
  count-moved = ap (count is_committed) seen-laid ∙ (laid-count past held ∙ contents-count κ s 0 (slots_seen κ s))

  slot-laid : (i : ℕ) → i < κ'.slots → seen κ' (moved κ κ' s) i ≡ get_or (map seen_as held ++ replicate past free) i free
  slot-laid i o = sym (seen_at κ' (moved κ κ' s) i free o) ∙ ap (λ (xs : List Seen). get_or xs i free) seen-laid

  -- it keeps the rules: its scan is not refused
  pub moved-rules : KeepsRules κ' (moved κ κ' s)
  moved-rules = record {
    undamaged = λ d o h. laid-undamaged past held d (sym (slot-laid d o) ∙ h);
    single = λ d d' e e' o o' n h h' q.
        let x = laid-at past held d e (sym (slot-laid d o) ∙ h) in
        let y = laid-at past held d' e' (sym (slot-laid d' o') ∙ h') in
        n (distinct-at (map txn_in held) (held-distinct κ s a.rules) d d' x.0 y.0 (x.1 ∙ (q ∙ sym y.1)) (λ z. rules-txn κ' e (committed-rules κ' (moved κ κ' s) d e h) (sym x.1 ∙ z)));
  }

  pub scan-moved : scan κ' (moved κ κ' s) ≡ says (A.Found (count is_committed (slots_seen κ s))) (idle_station κ' (entries_seen (slots_seen κ' (moved κ κ' s))))
  scan-moved = scan-finds κ' (moved κ κ' s) moved-long moved-rules ∙ ap (λ (n : ℕ). says (A.Found n) (idle_station κ' (entries_seen (slots_seen κ' (moved κ κ' s))))) count-moved

  -- the way back is not refused
  pub back-accepts : (t₂ : List ℕ) → length t₂ ≡ store_size κ → Accepts κ' κ (moved κ κ' s) t₂
  back-accepts t₂ l = record {
    source = moved-long;
    target = l;
    rules = moved-rules;
    room = omega (arith, count-moved, count_most is_committed (slots_seen κ s), seen-length κ s);
    narrow = ap (any (too_wide κ)) seen-laid ∙ laid-narrow past κ held (held-fit κ s a.source);
  }

  -- ── slot by slot ──
  -- slot d of the source, the i-th that is committed, is slot i of the target
  module _ (d : ℕ) (e : Entry) (o : d < κ.slots) (h : seen κ s d ≡ committed e) where
    abbrev nth : ℕ
    nth = count is_committed (take d (slots_seen κ s))

    in_held : get_or held nth no_content ≡ content_of κ s d e
    in_held = contents-at κ s (slots_seen κ s) 0 d d e (omega arith) (seen_at κ s d free o ∙ h)

    few-below : nth < length held
    few-below = omega (arith, committed-below (slots_seen κ s) d e (seen_at κ s d free o ∙ h), contents-count κ s 0 (slots_seen κ s))

    inside : nth < κ'.slots
    inside = omega (arith, few-below, few)

    pub slot-moved : seen κ' (moved κ κ' s) nth ≡ committed e
    slot-moved = slot-laid nth inside ∙ (laid-nth past held nth few-below ∙ (ap seen_as in_held ∙ (unfold content_of in refl)))

    content-moved : content_of κ' (moved κ κ' s) nth e ≡ content_of κ s d e
    content-moved = sym (contents-at κ' (moved κ κ' s) (slots_seen κ' (moved κ κ' s)) 0 nth nth e (omega arith) (seen_at κ' (moved κ κ' s) nth free inside ∙ slot-moved))
        ∙ (ap₂ (λ (cs : List Content) (n : ℕ). get_or cs n no_content) held_same (ap (λ (xs : List Seen). count is_committed (take nth xs)) seen-laid ∙ laid-below past held nth (omega (arith, few-below))) ∙ in_held)

    -- with the version records of its keys
    pub version-moved : (j : ℕ) → j < length (keys_of e) → record_at κ' (moved κ κ' s) nth (suc j) ≡ record_at κ s d (suc j)
    version-moved j oj = sym (nth-version κ' (moved κ κ' s) nth e j oj) ∙ (ap (λ (c : Content). take record_size (drop (record_size * j) c.versions)) content-moved ∙ nth-version κ s d e j oj)

  -- after them all slots are free
  pub rest-free : (i : ℕ) → count is_committed (slots_seen κ s) ≤ i → i < κ'.slots → seen κ' (moved κ κ' s) i ≡ free
  rest-free i h o = slot-laid i o ∙ laid-beyond past held i (omega (arith, h, contents-count κ s 0 (slots_seen κ s)))

-- ── the claims, by the answer ──
module _ (κ κ' : Kind) (φ' : KindFits κ') (s t : List ℕ) (n : ℕ) (h : (move κ κ' s t).answer ≡ A.Moved n) where
  told : Told κ κ' s t n (move κ κ' s t)
  told = move-told κ κ' s t n h

  by-target : (P : List ℕ → Type 0) → P (moved κ κ' s) → P (move κ κ' s t).target
  by-target P x = subst P (sym told.writes) x

  pub moved_length : length (move κ κ' s t).target ≡ store_size κ'
  moved_length = by-target (λ x. length x ≡ store_size κ') (moved-long κ κ' s t φ' told.accepts)

  -- "a move cut short is begun again": whatever it left in the target, the same comes of it
  pub move-again : (t₂ : List ℕ) → length t₂ ≡ store_size κ' → move κ κ' s t₂ ≡ move κ κ' s t
  move-again t₂ l = move-finished κ κ' s t₂ (record { source = a.source; target = l; rules = a.rules; room = a.room; narrow = a.narrow }) ∙ sym (move-finished κ κ' s t a)
    where
      a : Accepts κ κ' s t
      a = told.accepts

  pub moved-seen : slots_seen κ' (move κ κ' s t).target ≡ padded free κ'.slots (filter is_committed (slots_seen κ s))
  moved-seen = by-target (λ x. slots_seen κ' x ≡ padded free κ'.slots (filter is_committed (slots_seen κ s))) (seen-moved κ κ' s t φ' told.accepts)

  -- slot d of the source, the i-th that is committed, is slot i of the target, with the version records of its keys
  module _ (d : ℕ) (e : Entry) (o : d < κ.slots) (c : seen κ s d ≡ committed e) where
    pub moved-slot : seen κ' (move κ κ' s t).target (count is_committed (take d (slots_seen κ s))) ≡ committed e
    moved-slot = by-target (λ x. seen κ' x (count is_committed (take d (slots_seen κ s))) ≡ committed e) (slot-moved κ κ' s t φ' told.accepts d e o c)

    pub moved-version : (j : ℕ) → j < length (keys_of e) → record_at κ' (move κ κ' s t).target (count is_committed (take d (slots_seen κ s))) (suc j) ≡ record_at κ s d (suc j)
    moved-version j oj = by-target (λ x. record_at κ' x (count is_committed (take d (slots_seen κ s))) (suc j) ≡ record_at κ s d (suc j)) (version-moved κ κ' s t φ' told.accepts d e o c j oj)

  -- and no other is in use
  pub moved-free : (i : ℕ) → n ≤ i → i < κ'.slots → seen κ' (move κ κ' s t).target i ≡ free
  moved-free i oi o = by-target (λ x. seen κ' x i ≡ free) (rest-free κ κ' s t φ' told.accepts i (omega (arith, told.counted)) o)

  -- its scan is not refused
  pub moved-scan : (scan κ' (move κ κ' s t).target).answer ≡ A.Found n
  unfolding says
  moved-scan = by-target (λ x. (scan κ' x).answer ≡ A.Found n) (ap (λ (x : Effect). x.answer) (scan-moved κ κ' s t φ' told.accepts) ∙ ap (λ (m : ℕ). A.Found m) (sym told.counted))

  -- moved back: not refused; and moved out again, the same bytes come
  module _ (t₂ : List ℕ) (l : length t₂ ≡ store_size κ) where
    back : Accepts κ' κ (moved κ κ' s) t₂
    back = back-accepts κ κ' s t φ' told.accepts t₂ l

    back-made : move κ' κ (move κ κ' s t).target t₂ ≡ record { answer = A.Moved n; target = moved κ' κ (moved κ κ' s) }
    back-made = by-target (λ x. move κ' κ x t₂ ≡ record { answer = A.Moved n; target = moved κ' κ (moved κ κ' s) })
        (move-finished κ' κ (moved κ κ' s) t₂ back ∙ ap (λ (m : ℕ). record { answer = A.Moved m; target = moved κ' κ (moved κ κ' s) }) (count-moved κ κ' s t φ' told.accepts ∙ sym told.counted))

    pub back-moved : (move κ' κ (move κ κ' s t).target t₂).answer ≡ A.Moved n
    back-moved = ap (λ (m : Move). m.answer) back-made

    pub out-and-back : KindFits κ → (t₃ : List ℕ) → length t₃ ≡ store_size κ' → move κ κ' (move κ' κ (move κ κ' s t).target t₂).target t₃ ≡ move κ κ' s t
    out-and-back φ t₃ l₃ =
        ap (λ (m : Move). move κ κ' m.target t₃) back-made
        ∙ (move-finished κ κ' (moved κ' κ (moved κ κ' s)) t₃ (back-accepts κ' κ (moved κ κ' s) t₂ φ back t₃ l₃)
        ∙ (ap₂ (λ (m : ℕ) (x : List ℕ). record { answer = A.Moved m; target = x }) (count-moved κ' κ (moved κ κ' s) t₂ φ back ∙ count-moved κ κ' s t φ' told.accepts) same_bytes
        ∙ sym (move-finished κ κ' s t told.accepts)))
      where
        same_bytes : moved κ κ' (moved κ' κ (moved κ κ' s)) ≡ moved κ κ' s
        same_bytes = moved_by κ κ' (moved κ' κ (moved κ κ' s))
            ∙ (ap (λ (cs : List Content). padded 0 (store_size κ') (slots_for κ' cs)) (held_same κ' κ (moved κ κ' s) t₂ φ back ∙ held_same κ κ' s t φ' told.accepts) ∙ sym (moved_by κ κ' s))
