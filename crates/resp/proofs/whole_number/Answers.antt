-- `resp::whole_number` meets its contract.
use Rattle.resp.specs.Streams.{slash}
use Rattle.resp.proofs.NameBack.{slash-no-digit}
use Rattle.resp.proofs.NumberLaws.{whole-unread, whole-more, whole-read}
use Rattle.resp.proofs.whole_number.Goals as goal

pub returns-in_err-n : goal.returns-in_err-n
returns-in_err-n c = rw c.from_residual.ensures (whole-unread slash _ _ c.number_in.ensures slash-no-digit c.in_err-n.was)

pub returns-then-at-s : goal.returns-then-at-s
returns-then-at-s c = whole-read slash _ _ c.number_in.ensures slash-no-digit c.in_ok-n.n c.in_ok-n.at c.in_ok-n.was c.if-at-s.true

pub returns-else-at-s : goal.returns-else-at-s
returns-else-at-s c = whole-more slash _ _ c.number_in.ensures slash-no-digit c.in_ok-n.n c.in_ok-n.at c.in_ok-n.was c.if-at-s.false
