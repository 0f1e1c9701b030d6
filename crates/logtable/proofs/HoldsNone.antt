-- A table of zeros holds what no lines say.
use Prim.Native.Nat.{ℕ, zero, suc, ◌+◌}
use mathlib.Core.Path.{refl, sym, ◌∙◌}
use mathlib.Core.List.{[]}
use lib.ListN.{take, replicate, length-replicate}
use borrow.Author.Tests.{ne_eqb}
use Rattle.model.specs.Lists.{◌or◌, any, count, member, distinct}
use Rattle.model.proofs.ListLaws.{get_or-all, member-no}
use Rattle.shoplog.specs.Verdicts.{actors, gathered, once}
use Rattle.shoplog.specs.Claims.{AllFine}
use Rattle.logtable.specs.Tables.{places, table_size}
use Rattle.logtable.specs.Holds.{BlankAt, SeatsHeld, Holds}

-- no place is used
seats-none : (n m : ℕ) → SeatsHeld (take n (replicate m 0)) []
unfolding distinct member any count once ◌or◌
seats-none zero m = record { single = refl; seated = λ t z. refl; used = refl }
seats-none (suc n) zero = record { single = refl; seated = λ t z. refl; used = refl }
seats-none (suc n) (suc m) =
    let h = seats-none n m in
    record {
      single = h.single;
      seated = λ t z. member-no t 0 (take n (replicate m 0)) (ne_eqb t 0 z) ∙ h.seated t z;
      used = h.used;
    }

blank_none : (n p : ℕ) → BlankAt (replicate n 0) p
blank_none n p = record { clock = get_or-all n (64 + p) 0; written = get_or-all n (128 + p) 0; read = get_or-all n (192 + p) 0 }

pub holds-none : Holds (replicate table_size 0) []
unfolding AllFine actors gathered
holds-none = record {
  size = length-replicate {A = ℕ} table_size 0;
  fine = tt;
  seats = seats-none places table_size;
  blank = λ p o e. blank_none table_size p;
  holds = λ p t o e n. absurd (n (sym e ∙ get_or-all table_size p 0));
}
