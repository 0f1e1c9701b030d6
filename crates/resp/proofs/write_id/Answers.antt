-- `resp::write_id` meets its contract.
use borrow.Author.Rules.{rules}
use Rattle.resp.proofs.CommandLaws.{id-written}
use Rattle.resp.proofs.write_id.Goals as goal

pub returns : goal.returns
returns c =
    let w₁ = c.write_number-txn in
    let w₂ = c.write_number-end in
    id-written c.args.out.now w₁.new.out w₂.new.out w₁.result w₂.result c.args.id c.requires (search rules) w₁.ensures (rw c.from.ensures at w₂.ensures)
