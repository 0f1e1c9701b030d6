-- A collect, test by test.
use Prim.Native.Nat.{ℕ, ◌<◌, ◌≤◌}
use mathlib.Core.Path.{◌≡◌, sym, ap, ◌∙◌}
use mathlib.Core.Logic.{◌≢◌}
use mathlib.Core.Bool.{true, false, not}
use mathlib.Core.List.{List}
use lib.Dec.{leb}
use lib.ListN.{length}
use borrow.Author.Tests.{le-leb, lt-leb, eq-eqb, ne_eqb}
use Rattle.model.specs.Types.{Entry, Station}
use Rattle.model.specs.declared.Answer.TheVariants as A
use Rattle.model.specs.Lists.{◌or◌}
use Rattle.model.specs.Kinds.{store_size}
use Rattle.model.specs.Entries.{carries_entry, no_entry}
use Rattle.model.specs.Stations.{entry_at, set_entry, holds}
use Rattle.model.specs.Records.{zero_record, record_at}
use Rattle.model.specs.Sound.{sound}
use Rattle.model.specs.Supersedence.{superseded, is_read}
use Rattle.model.specs.Effects.{says, says_storing, wrong_length}
use Rattle.model.specs.Collect.{collect}
use Rattle.model.proofs.RefusalLaws.{refusals-none, skipped, hit}
use Rattle.model.proofs.Tests.{or-none, or-intro-left, or-intro-right, not_of_false, not-of-true}
use Rattle.stations.proofs.RowLaws.{is-unsound, not-unsound}
use Rattle.storing.proofs.Parts.{length-right}

-- ── the tests of a collect, in their order ──
module _ (st : Station) (s : List ℕ) (d : ℕ) where
  pub collect-1 : length s ≢ store_size st.kind → collect st s d ≡ says (A.Refused 1 0) st
  unfolding collect wrong_length
  collect-1 h = hit 1 _ _ st _ (not_of_false _ (ne_eqb _ _ h))

  module _ (z : length s ≡ store_size st.kind) where
    pub collect-2 : sound st ≡ false → collect st s d ≡ says (A.Refused 2 0) st
    unfolding collect
    collect-2 h = skipped 1 _ _ st _ (length-right st.kind s z) ∙ hit 2 _ _ st _ (is-unsound st h)

    module _ (g : sound st ≡ true) where
      pub collect-out : st.kind.slots ≤ d → collect st s d ≡ says (A.Refused 14 0) st
      unfolding collect
      collect-out h = skipped 1 _ _ st _ (length-right st.kind s z) ∙ (skipped 2 _ _ st _ (not-unsound st g) ∙ hit 14 _ _ st _ (or-intro-left _ _ (le-leb st.kind.slots d h)))

      pub collect-unheld : (entry_at st d).id.txn ≡ 0 → collect st s d ≡ says (A.Refused 14 0) st
      unfolding collect holds
      collect-unheld h = skipped 1 _ _ st _ (length-right st.kind s z) ∙ (skipped 2 _ _ st _ (not-unsound st g) ∙ hit 14 _ _ st _ (or-intro-right _ _ (not_of_false _ (not-of-true _ (eq-eqb _ 0 h)))))

      module _ (o : d < st.kind.slots) (n : (entry_at st d).id.txn ≢ 0) where
        held : (leb st.kind.slots d or not (holds st d)) ≡ false
        unfolding holds
        held = or-none _ _ (lt-leb st.kind.slots d o) (not-of-true _ (not_of_false _ (ne_eqb _ 0 n)))

        pub collect-15 : superseded st.entries (entry_at st d) ≡ false → collect st s d ≡ says (A.Refused 15 0) st
        unfolding collect
        collect-15 h = skipped 1 _ _ st _ (length-right st.kind s z) ∙ (skipped 2 _ _ st _ (not-unsound st g) ∙ (skipped 14 _ _ st _ held ∙ hit 15 _ _ st _ (not_of_false _ h)))

        module _ (p : superseded st.entries (entry_at st d) ≡ true) where
          pub collect-16 : is_read st (entry_at st d) ≡ true → collect st s d ≡ says (A.Refused 16 0) st
          unfolding collect
          collect-16 h = skipped 1 _ _ st _ (length-right st.kind s z) ∙ (skipped 2 _ _ st _ (not-unsound st g) ∙ (skipped 14 _ _ st _ held ∙ (skipped 15 _ _ st _ (not-of-true _ p) ∙ hit 16 _ _ st _ h)))

          module _ (r : is_read st (entry_at st d) ≡ false) where
            pub collect-17 : carries_entry st.kind (record_at st.kind s d 0) (entry_at st d) ≡ false → collect st s d ≡ says (A.Refused 17 0) st
            unfolding collect
            collect-17 h = skipped 1 _ _ st _ (length-right st.kind s z) ∙ (skipped 2 _ _ st _ (not-unsound st g) ∙ (skipped 14 _ _ st _ held ∙ (skipped 15 _ _ st _ (not-of-true _ p) ∙ (skipped 16 _ _ st _ r ∙ hit 17 _ _ st _ (not_of_false _ h)))))

            pub collect-on : (x : Entry) → x ≡ no_entry → carries_entry st.kind (record_at st.kind s d 0) (entry_at st d) ≡ true → collect st s d ≡ says_storing (A.Collected (entry_at st d).id) (set_entry st d x) d 0 zero_record
            unfolding collect
            collect-on x q h = skipped 1 _ _ st _ (length-right st.kind s z) ∙ (skipped 2 _ _ st _ (not-unsound st g) ∙ (skipped 14 _ _ st _ held ∙ (skipped 15 _ _ st _ (not-of-true _ p) ∙ (skipped 16 _ _ st _ r ∙ (skipped 17 _ _ st _ (not-of-true _ h) ∙ (refusals-none st _
                ∙ ap (λ (y : Entry). says_storing (A.Collected (entry_at st d).id) (set_entry st d y) d 0 zero_record) (sym q)))))))
