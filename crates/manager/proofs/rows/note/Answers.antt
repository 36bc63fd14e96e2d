use mathlib.Core.Path.{◌≡◌}
use Rattle.passes.specs.declared.Terms.{Terms}
use Rattle.manager.specs.Calls.{noted_of}
use Rattle.manager.specs.Rows.{nothing_is, manager_of}
use Rattle.manager.specs.declared.Event.{Event}
use Rattle.manager.specs.declared.Manager.{Manager}
use Rattle.manager.specs.declared.Noted.{Noted}
use Rattle.manager.proofs.rows.note.Goals as goal

-- An event is what the match on it found.
found : (m : Manager) (t : Terms) {e e' : Event} {r : Noted} → e ≡ e' → r ≡ noted_of m t e' → r ≡ noted_of m t e
found m t k f = rw k f

pub returns-in-ProfilePidsChanged : goal.returns-in-ProfilePidsChanged
returns-in-ProfilePidsChanged c =
    let a = c.args in
    record {
      table_len = c.profile_pids_changed.ensures.table_len;
      result_after = found (manager_of a.table.now a.core) a.terms c.in-ProfilePidsChanged.is c.profile_pids_changed.ensures.result_after;
    }

pub returns-in-Waiting : goal.returns-in-Waiting
returns-in-Waiting c =
    let a = c.args in
    record {
      table_len = c.waiting.ensures.table_len;
      result_after = found (manager_of a.table.now a.core) a.terms c.in-Waiting.is c.waiting.ensures.result_after;
    }

pub returns-in-Consumed : goal.returns-in-Consumed
returns-in-Consumed c =
    let a = c.args in
    record {
      table_len = c.consumed.ensures.table_len;
      result_after = found (manager_of a.table.now a.core) a.terms c.in-Consumed.is c.consumed.ensures.result_after;
    }

pub returns-in-Nothing : goal.returns-in-Nothing
returns-in-Nothing c =
    let a = c.args in
    record {
      table_len = c.requires;
      result_after = found (manager_of a.table.now a.core) a.terms c.in-Nothing.is (rw c.empty-nothing.ensures (nothing_is a.table.now a.core a.terms));
    }
