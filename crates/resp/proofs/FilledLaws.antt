-- The store that an import makes of a committed set (specs/Imports, `filled`): what is read of its slots, that it keeps the rules, and that its
-- committed set is that one.
use Prim.Native.Nat.{ℕ, suc, ◌+◌, ◌*◌, ◌-◌, ◌<◌, ◌≤◌}
use mathlib.Core.Path.{◌≡◌, refl, sym, ap, ap₂, ◌∙◌}
use mathlib.Core.Bool.{true}
use mathlib.Core.List.{List, [], ◌∷◌, ◌++◌, map, map-append, append-nil, append_assoc, reverse, reverse-cons}
use lib.ListN.{length, take, drop, get_or, replicate, length-map, length-reverse, length-append, length-replicate, get_or-replicate, get_or-append}
use native.Mathlib.Omega.{arith}
use Rattle.model.specs.declared.Answer.TheVariants as A
use Rattle.model.specs.Lists.{count, from, distinct}
use Rattle.model.specs.Limits.{record_size}
use Rattle.model.specs.Kinds.{narrow_kind, slot_size, store_size}
use Rattle.model.specs.Ids.{no_id}
use Rattle.model.specs.Ranges.{Every}
use Rattle.model.specs.Lives.{no_write, write_key}
use Rattle.model.specs.Records.{version_record, record_at}
use Rattle.model.specs.Slots.{Seen, free, committed, seen}
use Rattle.model.specs.Stations.{idle_station}
use Rattle.model.specs.Effects.{Effect, says}
use Rattle.model.specs.Scan.{slots_seen, entries_seen, is_committed, scan}
use Rattle.model.proofs.ListLaws.{every_map, map_at}
use Rattle.model.proofs.KindLaws.{narrow-fits}
use Rattle.model.proofs.ScanLaws.{seen_at, KeepsRules, scan-finds}
use Rattle.model.proofs.ContentLaws.{Content, no_content, content_of, contents, txn_in, seen_as, slot_for, slots_for, Fit, nth-version}
use Rattle.model.proofs.HeldLaws.{held_by, contents-count, contents-at}
use Rattle.model.proofs.LaidLaws.{slots-long}
use Rattle.resp.specs.Streams.{Transaction, TransactionFits, none_twice, CommittedSet}
use Rattle.resp.specs.Exports.{by_age, transactions_from, committed_set}
use Rattle.resp.specs.Imports.{entry_of, slots_down, filled}
use Rattle.resp.proofs.BackLaws.{every-reverse, map-reverse, distinct-reverse, reverse-at}
use Rattle.resp.proofs.EndLaws.{at_end, end_seen, end-contents, end-rules, end-nth, end_below}
use Rattle.resp.proofs.SlotContents.{transaction_of, transactions-held, version-nth, content_for, slot-for, content-for-fits, transaction-for}
use Rattle.resp.proofs.OldestLast.{by-age-back}

abbrev pub no_transaction : Transaction
no_transaction = record { id = no_id; writes = [] }

-- what the slots hold, in their order: "drawers from the top", so backwards
abbrev pub held_for : List Transaction → List Content
held_for xs = map content_for (reverse xs)

pub held-for-length : (xs : List Transaction) → length (held_for xs) ≡ length xs
held-for-length xs = length-map (reverse xs) content_for ∙ length-reverse xs

slots-append : (cs : List Content) (c : Content) → slots_for narrow_kind (cs ++ (c ∷ [])) ≡ slots_for narrow_kind cs ++ slot_for narrow_kind c
unfolding slots_for
slots-append [] c = append-nil (slot_for narrow_kind c)
slots-append (x ∷ cs) c = ap (λ (l : List ℕ). slot_for narrow_kind x ++ l) (slots-append cs c) ∙ sym (append_assoc (slot_for narrow_kind x) (slots_for narrow_kind cs) (slot_for narrow_kind c))

slots-down : (xs : List Transaction) → slots_down xs ≡ slots_for narrow_kind (held_for xs)
unfolding slots_down
slots-down [] = unfold slots_for in refl
slots-down (x ∷ xs) = ap₂ (λ (l m : List ℕ). l ++ m) (slots-down xs) (slot-for x)
    ∙ (sym (slots-append (held_for xs) (content_for x)) ∙ ap (slots_for narrow_kind) (sym (map-append content_for (reverse xs) (x ∷ [])) ∙ ap (map content_for) (sym (reverse-cons x xs))))

transactions-back : (ys : List Transaction) → Every TransactionFits ys → map transaction_of (map content_for ys) ≡ ys
transactions-back [] f = refl
transactions-back (y ∷ ys) f = ap₂ (λ (x : Transaction) (xs : List Transaction). x ∷ xs) (transaction-for y f.0) (transactions-back ys f.1)

-- the numbers of their transactions, from the last to the first
held-txns : (ys : List Transaction) → map txn_in (map content_for ys) ≡ map (λ (x : Transaction). x.id.txn) ys
unfolding content_for entry_of
held-txns [] = refl
held-txns (y ∷ ys) = ap (λ (ns : List ℕ). y.id.txn ∷ ns) (held-txns ys)

module _ (xs : List Transaction) (c : CommittedSet xs) (few : length xs ≤ narrow_kind.slots) where
  -- the slots before them
  abbrev before : ℕ
  before = narrow_kind.slots - length xs

  back_fits : Every TransactionFits (reverse xs)
  back_fits = every-reverse TransactionFits xs c.fit

  held_fits : Every (Fit narrow_kind) (held_for xs)
  held_fits = every_map (Fit narrow_kind) content_for TransactionFits content-for-fits (reverse xs) back_fits

  down-long : length (slots_down xs) ≡ slot_size narrow_kind * length xs
  down-long = ap length (slots-down xs) ∙ (slots-long narrow_kind narrow-fits (held_for xs) held_fits ∙ ap (λ (n : ℕ). slot_size narrow_kind * n) (held-for-length xs))

  pub filled-length : length (filled xs) ≡ store_size narrow_kind
  unfolding filled
  filled-length = length-append (replicate (store_size narrow_kind - length (slots_down xs)) 0) (slots_down xs)
      ∙ omega (arith, length-replicate {A = ℕ} (store_size narrow_kind - length (slots_down xs)) 0, down-long)

  laid : filled xs ≡ at_end narrow_kind before (held_for xs)
  unfolding filled at_end
  laid = ap₂ (λ (n : ℕ) (l : List ℕ). replicate n 0 ++ l) q (slots-down xs)
    where
      q : store_size narrow_kind - length (slots_down xs) ≡ slot_size narrow_kind * before
      q = omega (arith, down-long)

  -- ── what is seen: free slots, and after them the transactions, the oldest last ──
  pub filled-seen : slots_seen narrow_kind (filled xs) ≡ replicate before free ++ map seen_as (held_for xs)
  unfolding slots_seen
  filled-seen = ap₂ (λ (n : ℕ) (s : List ℕ). from n 0 (seen narrow_kind s)) q laid ∙ end_seen narrow_kind narrow-fits (held_for xs) held_fits before
    where
      q : narrow_kind.slots ≡ before + length (held_for xs)
      q = omega (arith, held-for-length xs, few)

  pub filled-held : held_by narrow_kind (filled xs) ≡ held_for xs
  filled-held = ap₂ (λ (s : List ℕ) (ys : List Seen). contents narrow_kind s 0 ys) laid filled-seen ∙ end-contents narrow_kind narrow-fits (held_for xs) held_fits before

  pub slot-free : (d : ℕ) → d < before → seen narrow_kind (filled xs) d ≡ free
  slot-free d o = sym (seen_at narrow_kind (filled xs) d free (omega arith)) ∙ (ap (λ (ys : List Seen). get_or ys d free) filled-seen
      ∙ (get_or-append (replicate before free) (map seen_as (held_for xs)) free d (omega (arith, o, length-replicate before free)) ∙ get_or-replicate before d free free o))

  -- the i-th from the top
  module _ (i : ℕ) (o : i < length xs) where
    abbrev nth : Transaction
    nth = get_or xs i no_transaction

    abbrev place : ℕ
    place = narrow_kind.slots - suc i

    abbrev later : ℕ
    later = length xs - suc i

    inside : later < length (held_for xs)
    inside = omega (arith, o, held-for-length xs)

    in_held : get_or (held_for xs) later no_content ≡ content_for nth
    in_held = map_at content_for (reverse xs) later (omega (arith, o, length-reverse xs)) no_content no_transaction ∙ ap content_for (reverse-at xs i no_transaction o)

    at_place : place ≡ before + later
    at_place = omega (arith, o, few)

    slot_seen : get_or (slots_seen narrow_kind (filled xs)) place free ≡ committed (entry_of nth)
    slot_seen = ap₂ (λ (ys : List Seen) (d : ℕ). get_or ys d free) filled-seen at_place ∙ (end-nth before (held_for xs) later inside ∙ (ap seen_as in_held ∙ (unfold content_for in refl)))

    pub slot-committed : seen narrow_kind (filled xs) place ≡ committed (entry_of nth)
    slot-committed = sym (seen_at narrow_kind (filled xs) place free (omega (arith, o, few))) ∙ slot_seen

    slot-content : content_of narrow_kind (filled xs) place (entry_of nth) ≡ content_for nth
    slot-content = sym (contents-at narrow_kind (filled xs) (slots_seen narrow_kind (filled xs)) 0 place place (entry_of nth) (omega arith) slot_seen)
        ∙ (ap₂ (λ (cs : List Content) (n : ℕ). get_or cs n no_content) filled-held
        (ap₂ (λ (ys : List Seen) (d : ℕ). count is_committed (take d ys)) filled-seen at_place ∙ end_below before (held_for xs) later inside) ∙ in_held)

    pub slot-version : (j : ℕ) → j < length nth.writes
        → record_at narrow_kind (filled xs) place (suc j) ≡ version_record (get_or nth.writes j no_write).key nth.id (get_or nth.writes j no_write).value
    unfolding entry_of content_for
    slot-version j oj = sym (nth-version narrow_kind (filled xs) place (entry_of nth) j (omega (arith, oj, length-map nth.writes write_key)))
        ∙ (ap (λ (x : Content). take record_size (drop (record_size * j) x.versions)) slot-content ∙ version-nth nth.id nth.writes j oj)

  -- ── it keeps the rules, and its scan is not refused ──
  distinct-held : distinct (map txn_in (held_for xs)) ≡ true
  unfolding none_twice
  distinct-held = ap distinct (held-txns (reverse xs) ∙ map-reverse (λ (x : Transaction). x.id.txn) xs) ∙ distinct-reverse (map (λ (x : Transaction). x.id.txn) xs) c.once

  pub filled-rules : KeepsRules narrow_kind (filled xs)
  filled-rules = end-rules narrow_kind (filled xs) before (held_for xs) filled-seen distinct-held

  filled-count : count is_committed (slots_seen narrow_kind (filled xs)) ≡ length xs
  filled-count = sym (contents-count narrow_kind (filled xs) 0 (slots_seen narrow_kind (filled xs))) ∙ (ap length filled-held ∙ held-for-length xs)

  pub filled-scan : scan narrow_kind (filled xs) ≡ says (A.Found (length xs)) (idle_station narrow_kind (entries_seen (slots_seen narrow_kind (filled xs))))
  filled-scan = scan-finds narrow_kind (filled xs) filled-length filled-rules
      ∙ ap (λ (n : ℕ). says (A.Found n) (idle_station narrow_kind (entries_seen (slots_seen narrow_kind (filled xs))))) filled-count

  pub imported-scans : (scan narrow_kind (filled xs)).answer ≡ A.Found (length xs)
  unfolding says
  imported-scans = ap (λ (x : Effect). x.answer) filled-scan

  -- ── its committed set is the one that it was made of ──
  pub filled-transactions : transactions_from (filled xs) 0 (slots_seen narrow_kind (filled xs)) ≡ reverse xs
  filled-transactions = transactions-held (filled xs) 0 (slots_seen narrow_kind (filled xs)) ∙ (ap (map transaction_of) filled-held ∙ transactions-back (reverse xs) back_fits)

  pub filled-set : committed_set (filled xs) ≡ xs
  unfolding committed_set
  filled-set = ap by_age filled-transactions ∙ by-age-back xs c.ordered
