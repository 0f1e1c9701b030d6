-- Both kinds have what is asked of a kind (specs/Kinds), and their sizes are the papers'.
use mathlib.Core.Path.{◌≡◌, refl, ap, ◌∙◌}
use lib.Dec.{lit<}
use lib.ListN.{length}
use lib.Seq.{take_at}
use native.Mathlib.Omega.{arith}
use Rattle.model.specs.Lists.{padded}
use Rattle.model.specs.Limits.{keys, keys_size}
use Rattle.model.specs.Bytes.{bytes}
use Rattle.model.specs.KeySets.{key_set, set_number}
use Rattle.model.specs.Kinds.{narrow_kind, wide_kind, store_size, KindFits}
use Rattle.model.specs.Ranges.{IsByte}
use Rattle.model.proofs.ListLaws.{every-everywhere}
use Rattle.model.proofs.InsertLaws.{padded-length, every-padded, ascending-bytes}
use Rattle.model.proofs.KeySetLaws.{number-below, number-set}
use Rattle.model.proofs.RecordLaws.{length-bytes, number-bytes, bytes-are}

-- "Store: 13,824 lent bytes"; 02 §6: "13,056 bytes"
pub narrow_size : store_size narrow_kind ≡ 13824
narrow_size = refl

pub wide-size : store_size wide_kind ≡ 13056
wide-size = refl

pub narrow-fits : KindFits narrow_kind
narrow-fits = record {
  slots-fit = lit< tt;
  writes-fit = lit< tt;
  marked = λ z. omega (arith, z);
  mark8 = lit< tt;
  eight = λ ks w. padded-length 0 keys_size ks w.1;
  bytes8 = λ ks w i. every-everywhere IsByte (padded 0 keys_size ks) (every-padded IsByte 0 keys_size ks (ascending-bytes 0 ks w.0) (lit< tt)) 0 (lit< tt) i;
  round = λ ks w. unfold padded in take_at ks _ (length ks) refl;
}

pub wide_fits : KindFits wide_kind
wide_fits = record {
  slots-fit = lit< tt;
  writes-fit = lit< tt;
  marked = λ z. omega (arith, z);
  mark8 = lit< tt;
  eight = λ ks w. length-bytes keys_size (set_number ks);
  bytes8 = λ ks w i. every-everywhere IsByte (bytes keys_size (set_number ks)) (bytes-are keys_size (set_number ks)) 0 (lit< tt) i;
  round = λ ks w. ap key_set (number-bytes keys_size (set_number ks) (number-below keys ks w.0)) ∙ number-set ks w.0;
}
