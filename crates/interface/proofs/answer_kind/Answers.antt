-- `interface::answer_kind` meets its contract.
use Rattle.interface.specs.Exchange.{answer_kind}
use Rattle.interface.proofs.answer_kind.Goals as goal

pub returns-in-Started : goal.returns-in-Started
unfolding answer_kind
returns-in-Started c = rw c.in-Started.is

pub returns-in-Kept : goal.returns-in-Kept
unfolding answer_kind
returns-in-Kept c = rw c.in-Kept.is

pub returns-in-Own : goal.returns-in-Own
unfolding answer_kind
returns-in-Own c = rw c.in-Own.is

pub returns-in-Version : goal.returns-in-Version
unfolding answer_kind
returns-in-Version c = rw c.in-Version.is

pub returns-in-None : goal.returns-in-None
unfolding answer_kind
returns-in-None c = rw c.in-None.is

pub returns-in-Nofit : goal.returns-in-Nofit
unfolding answer_kind
returns-in-Nofit c = rw c.in-Nofit.is

pub returns-in-Closing : goal.returns-in-Closing
unfolding answer_kind
returns-in-Closing c = rw c.in-Closing.is

pub returns-in-Empty : goal.returns-in-Empty
unfolding answer_kind
returns-in-Empty c = rw c.in-Empty.is

pub returns-in-Done : goal.returns-in-Done
unfolding answer_kind
returns-in-Done c = rw c.in-Done.is

pub returns-in-Stored : goal.returns-in-Stored
unfolding answer_kind
returns-in-Stored c = rw c.in-Stored.is

pub returns-in-Slipped : goal.returns-in-Slipped
unfolding answer_kind
returns-in-Slipped c = rw c.in-Slipped.is

pub returns-in-Dropped : goal.returns-in-Dropped
unfolding answer_kind
returns-in-Dropped c = rw c.in-Dropped.is

pub returns-in-Collected : goal.returns-in-Collected
unfolding answer_kind
returns-in-Collected c = rw c.in-Collected.is

pub returns-in-Found : goal.returns-in-Found
unfolding answer_kind
returns-in-Found c = rw c.in-Found.is

pub returns-in-Refused : goal.returns-in-Refused
unfolding answer_kind
returns-in-Refused c = rw c.in-Refused.is

pub returns-in-Swept : goal.returns-in-Swept
unfolding answer_kind
returns-in-Swept c = rw c.in-Swept.is

pub returns-in-Moved : goal.returns-in-Moved
unfolding answer_kind
returns-in-Moved c = rw c.in-Moved.is
