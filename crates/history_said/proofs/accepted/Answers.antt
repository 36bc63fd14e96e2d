-- `history_said::accepted` meets its contract.
use Rattle.history_said.specs.Texts.{accepted_text}
use Rattle.history_said.proofs.accepted.Goals as goal

pub returns-in-Started : goal.returns-in-Started
unfolding accepted_text
returns-in-Started g c = λ x. rw c.in-Started.is c.put.ensures

pub returns-in-Done : goal.returns-in-Done
unfolding accepted_text
returns-in-Done g c = λ x. rw c.in-Done.is (c.done.ensures x)

pub returns-in-Client : goal.returns-in-Client
unfolding accepted_text
returns-in-Client g c = λ x. rw c.in-Client.is c.numbered.ensures

pub returns-in-Asked : goal.returns-in-Asked
unfolding accepted_text
returns-in-Asked g c = λ x. rw c.in-Asked.is c.asked.ensures

pub returns-in-Collected : goal.returns-in-Collected
unfolding accepted_text
returns-in-Collected g c = λ x. rw c.in-Collected.is c.collected.ensures

pub returns-in-GivenUp : goal.returns-in-GivenUp
unfolding accepted_text
returns-in-GivenUp g c = λ x. rw c.in-GivenUp.is c.put-in-GivenUp.ensures

pub returns-in-Taken : goal.returns-in-Taken
unfolding accepted_text
returns-in-Taken g c = λ x. rw c.in-Taken.is c.taken.ensures

pub returns-in-Connecting : goal.returns-in-Connecting
unfolding accepted_text
returns-in-Connecting g c = λ x. rw c.in-Connecting.is c.connecting.ensures

pub returns-in-Check : goal.returns-in-Check
unfolding accepted_text
returns-in-Check g c = λ x. rw c.in-Check.is c.check.ensures

pub returns-in-Step : goal.returns-in-Step
unfolding accepted_text
returns-in-Step g c = λ x. rw c.in-Step.is c.step.ensures
