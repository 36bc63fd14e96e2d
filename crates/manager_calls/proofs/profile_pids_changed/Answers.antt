use mathlib.Core.Path.{refl, sym, ◌∙◌}
use native.Mathlib.Omega.{arith}
use Rattle.base.specs.Refusal.{first_here, first_next, first_none}
use Rattle.manager_calls.specs.Settle.{own_refused, own_settled}
use Rattle.obd2.specs.Call.{Changed}
use Rattle.obd2.specs.Core.{with_manager, box_of, refused_is}
use Rattle.obd2.specs.Done.{manager_by}
use Rattle.obd2.specs.Refusals.{manager_rows}
use borrow.Author.Rules.{rules}
use Rattle.manager_calls.proofs.profile_pids_changed.Goals as goal

-- The clauses, each under its name.
named_table_len_2_pids_len_2_rates_len_2_pids_unchanged_rates_unchanged_answers : {A B C D E F : Type 0} → A × (B × (C × (D × (E × F)))) → record { table_len_2 : A; pids_len_2 : B; rates_len_2 : C; pids_unchanged : D; rates_unchanged : E; answers : F }
named_table_len_2_pids_len_2_rates_len_2_pids_unchanged_rates_unchanged_answers p = record { table_len_2 = p.0; pids_len_2 = p.1.0; rates_len_2 = p.1.1.0; pids_unchanged = p.1.1.1.0; rates_unchanged = p.1.1.1.1.0; answers = p.1.1.1.1.1 }

pub returns-then-bad_profiles : goal.returns-then-bad_profiles
unfolding manager_rows
returns-then-bad_profiles c =
    named_table_len_2_pids_len_2_rates_len_2_pids_unchanged_rates_unchanged_answers (let a = c.args in (
      search rules,
      (
        search rules,
        (
          search rules,
          (
            λ z. refl,
            (
              λ z. refl,
              λ x.
                  let s = with_manager x a.table.now a.slots.now a.pids.now a.rates.now in
                  own_refused (box_of s a.core) a.time (Changed a.profiles) 2 (sym (first_here 2 _ _ (sym c.bad_profiles.ensures ∙ c.if-bad_profiles.true))) (λ z. omega arith) (refused_is s a.core c.refuse.result _ c.refuse.ensures),
            ),
          ),
        ),
      ),
    ))

pub returns : goal.returns
unfolding manager_rows manager_by
returns c =
    named_table_len_2_pids_len_2_rates_len_2_pids_unchanged_rates_unchanged_answers (let a = c.args in
    let e = c.tell.ensures in (
      e.table_len_2,
      (
        e.pids_len_2,
        (
          e.rates_len_2,
          (
            e.pids_unchanged,
            (
              e.rates_unchanged,
              λ x.
                  let s = with_manager x a.table.now a.slots.now a.pids.now a.rates.now in
                  own_settled (box_of s a.core) a.time (Changed a.profiles) 0 (sym (first_next 2 _ _ (sym c.bad_profiles.ensures ∙ c.if-bad_profiles.false) ∙ first_none)) refl (e.result_after x),
            ),
          ),
        ),
      ),
    ))
