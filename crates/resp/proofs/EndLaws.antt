-- Committed slots laid at the end of a store, zeros before them (model's LaidLaws has them at its front): they are read back, and the others are free.
use Prim.Native.Nat.{ℕ, zero, suc, ◌+◌, ◌*◌, ◌<◌}
use mathlib.Core.Path.{◌≡◌, sym, ap, ap₂, subst, ◌∙◌}
use mathlib.Core.Logic.{◌≢◌}
use mathlib.Core.Bool.{true}
use mathlib.Core.List.{List, [], ◌∷◌, ◌++◌, map, append-nil, append_assoc}
use lib.Dec.{lit<}
use lib.ListN.{length, take, drop, get_or, replicate, replicate-append-replicate, length-replicate, get_or-replicate, get_or-append}
use lib.Seq.{get_or-take, get_or-drop}
use native.Mathlib.Nat.{mul-suc, mul-zero}
use native.Mathlib.Omega.{arith}
use Rattle.model.specs.Types.{Entry}
use Rattle.model.specs.Lists.{count, from, distinct}
use Rattle.model.specs.Limits.{record_size}
use Rattle.model.specs.Kinds.{Kind, slot_size, KindFits}
use Rattle.model.specs.Ranges.{Every}
use Rattle.model.specs.Entries.{mark_in, free_mark}
use Rattle.model.specs.Records.{record_place, record_at}
use Rattle.model.specs.Slots.{Seen, free, committed, damaged, seen}
use Rattle.model.specs.Scan.{slots_seen, is_committed}
use Rattle.model.proofs.DistinctLaws.{distinct-at}
use Rattle.model.proofs.SlotLaws.{rules-txn, committed-rules, committed≢free, free≢damaged, seen-free, first_slot}
use Rattle.model.proofs.ScanLaws.{seen_at, KeepsRules}
use Rattle.model.proofs.ContentLaws.{Content, no_content, txn_in, seen_as, contents, slots_for, Fit}
use Rattle.model.proofs.LaidLaws.{next-contents, next-slots, slots-seen, slots-contents, laid-undamaged, laid-at, laid-nth, laid-below}

abbrev zeros : ℕ → List ℕ
zeros n = replicate n 0

-- slots of zeros: one, and the others
slot-more : (κ : Kind) (m : ℕ) → zeros (slot_size κ * suc m) ≡ zeros (slot_size κ) ++ zeros (slot_size κ * m)
slot-more κ m = ap zeros q ∙ sym (replicate-append-replicate {A = ℕ} (slot_size κ) (slot_size κ * m) 0)
  where
    q : slot_size κ * suc m ≡ slot_size κ + slot_size κ * m
    q = omega (arith, mul-suc (slot_size κ) m)

module _ (κ : Kind) where
  zeros-long : length (zeros (slot_size κ)) ≡ slot_size κ
  zeros-long = length-replicate {A = ℕ} (slot_size κ) 0

  zeros-first : (t : List ℕ) → mark_in (record_at κ (zeros (slot_size κ) ++ t) 0 0) ≡ free_mark
  unfolding mark_in record_at
  zeros-first t =
      get_or-take record_size (drop (record_place κ 0 0) (zeros (slot_size κ) ++ t)) 0 0 (lit< tt)
      ∙ (get_or-drop (record_place κ 0 0) (zeros (slot_size κ) ++ t) 0 0
      ∙ (get_or-append (zeros (slot_size κ)) t 0 (record_place κ 0 0 + 0) (omega (arith, first_slot κ, zeros-long))
      ∙ get_or-replicate {A = ℕ} (slot_size κ) (record_place κ 0 0 + 0) 0 0 (omega (arith, first_slot κ))))

  first-free : (t : List ℕ) → seen κ (zeros (slot_size κ) ++ t) 0 ≡ free
  first-free t = seen-free κ (zeros (slot_size κ) ++ t) 0 (zeros-first t)

-- the slots after so many of zeros
unfoldable pub at_end : Kind → ℕ → List Content → List ℕ
at_end κ m cs = zeros (slot_size κ * m) ++ slots_for κ cs

module _ (κ : Kind) (φ : KindFits κ) (cs : List Content) (f : Every (Fit κ) cs) where
  end_more : (m : ℕ) → at_end κ (suc m) cs ≡ zeros (slot_size κ) ++ at_end κ m cs
  unfolding at_end
  end_more m = ap (λ (l : List ℕ). l ++ slots_for κ cs) (slot-more κ m) ∙ append_assoc (zeros (slot_size κ)) (zeros (slot_size κ * m)) (slots_for κ cs)

  end_none : at_end κ 0 cs ≡ slots_for κ cs ++ []
  unfolding at_end
  end_none = rw (mul-zero (slot_size κ)) (sym (append-nil (slots_for κ cs)))

  pub end_seen : (m : ℕ) → from (m + length cs) 0 (seen κ (at_end κ m cs)) ≡ replicate m free ++ map seen_as cs
  unfolding from
  end_seen zero =
      let q : 0 + length cs ≡ length cs + 0 = omega arith in
      rw (q, end_none) (slots-seen κ φ cs f 0 0 ∙ append-nil (map seen_as cs))
  end_seen (suc m) =
      let q : suc m + length cs ≡ suc (m + length cs) = omega arith in
      rw (q, end_more m)
      (ap₂ (λ (x : Seen) (xs : List Seen). x ∷ xs) (first-free κ (at_end κ m cs)) (next-slots κ (zeros (slot_size κ)) (at_end κ m cs) (zeros-long κ) (m + length cs) 0 ∙ end_seen m))

  pub end-contents : (m : ℕ) → contents κ (at_end κ m cs) 0 (replicate m free ++ map seen_as cs) ≡ cs
  unfolding contents
  end-contents zero = rw end_none (ap (contents κ (slots_for κ cs ++ []) 0) (sym (append-nil (map seen_as cs))) ∙ slots-contents κ φ cs f 0 0)
  end-contents (suc m) = rw (end_more m) (next-contents κ (zeros (slot_size κ)) (at_end κ m cs) (zeros-long κ) 0 (replicate m free ++ map seen_as cs) ∙ end-contents m)

-- ── free slots, and after them slots seen as committed ──
pub end-undamaged : (m : ℕ) (cs : List Content) (i : ℕ) → get_or (replicate m free ++ map seen_as cs) i free ≢ damaged
end-undamaged zero cs i = subst (λ (xs : List Seen). get_or xs i free ≢ damaged) (append-nil (map seen_as cs)) (laid-undamaged 0 cs i)
end-undamaged (suc m) cs zero = free≢damaged
end-undamaged (suc m) cs (suc i) = end-undamaged m cs i

pub end-at : (m : ℕ) (cs : List Content) (i : ℕ) (e : Entry) → get_or (replicate m free ++ map seen_as cs) i free ≡ committed e
    → (j : ℕ) × (i ≡ m + j) × (j < length (map txn_in cs)) × (get_or (map txn_in cs) j 0 ≡ e.id.txn)
end-at zero cs i e h = let r = laid-at 0 cs i e (ap (λ (xs : List Seen). get_or xs i free) (append-nil (map seen_as cs)) ∙ h) in (i, omega arith, r.0, r.1)
end-at (suc m) cs zero e h = absurd (committed≢free e (sym h))
end-at (suc m) cs (suc i) e h = let r = end-at m cs i e h in (r.0, omega (arith, r.1), r.2, r.3)

pub end-nth : (m : ℕ) (cs : List Content) (j : ℕ) → j < length cs → get_or (replicate m free ++ map seen_as cs) (m + j) free ≡ seen_as (get_or cs j no_content)
end-nth zero cs j o =
    let q : 0 + j ≡ j = omega arith in
    rw q (ap (λ (xs : List Seen). get_or xs j free) (sym (append-nil (map seen_as cs))) ∙ laid-nth 0 cs j o)
end-nth (suc m) cs j o =
    let q : suc m + j ≡ suc (m + j) = omega arith in
    rw q (end-nth m cs j o)

pub end_below : (m : ℕ) (cs : List Content) (j : ℕ) → j < length cs → count is_committed (take (m + j) (replicate m free ++ map seen_as cs)) ≡ j
unfolding count is_committed
end_below zero cs j o =
    let q : 0 + j ≡ j = omega arith in
    rw q (ap (λ (xs : List Seen). count is_committed (take j xs)) (sym (append-nil (map seen_as cs))) ∙ laid-below 0 cs j (omega arith))
end_below (suc m) cs j o =
    let q : suc m + j ≡ suc (m + j) = omega arith in
    rw q (end_below m cs j o)

-- a store of which this is seen keeps the rules, where no two have one transaction
pub end-rules : (κ : Kind) (s : List ℕ) (m : ℕ) (cs : List Content) → slots_seen κ s ≡ replicate m free ++ map seen_as cs → distinct (map txn_in cs) ≡ true → KeepsRules κ s
end-rules κ s m cs h u = record {
  undamaged = λ d o x. end-undamaged m cs d (sym (slot d o) ∙ x);
  single = λ d d' e e' o o' n x x' q.
      let r = end-at m cs d e (sym (slot d o) ∙ x) in
      let r' = end-at m cs d' e' (sym (slot d' o') ∙ x') in
      let z = distinct-at (map txn_in cs) u r.0 r'.0 r.2 r'.2 (r.3 ∙ (q ∙ sym r'.3)) (λ y. rules-txn κ e (committed-rules κ s d e x) (sym r.3 ∙ y)) in
      n (omega (arith, r.1, r'.1, z));
}
  where
    slot : (d : ℕ) → d < κ.slots → seen κ s d ≡ get_or (replicate m free ++ map seen_as cs) d free
    slot d o = sym (seen_at κ s d free o) ∙ ap (λ (xs : List Seen). get_or xs d free) h
