-- The invariant about time holds in every run; so the promise does.
use Rattle.std.proofs.Common.{List, [], ◌∷◌, sym, refl, ap, ◌∙◌, subst}
use Rattle.std.proofs.lemmas.Bool.{cond_both}
use Rattle.schedule.specs.declared.types.Terms.{Terms}
use Rattle.moments.specs.Runs.{Deposit, History, start_of}
use Rattle.moments.proofs.Whole.{Whole}
use Rattle.moments.proofs.Theorems.{run_whole, passed_on_pays, no_lock_twice}
use Rattle.promise_told.specs.World.{World, node_of, terms_of, Event, tick, entry, looks, shows, reveals, arrives, restart, entry_cut, look_cut, may_tick, ticked, is_true, looked, looked_in_part, happens, run, beginning}
use Rattle.promise_told.specs.Main.{Holds, Main, NoOlder, DecidedEarly, InTime}
use Rattle.promise_told.proofs.Replays.{By, by_then, happens_by_lem}
use Rattle.promise_told.proofs.Follows.{after_terms, main_from}
use Rattle.promise_told.proofs.Safe.{Timely, AlwaysTimely, tick_timely, neighbour_timely, reveals_timely, restart_timely, no_older_from, decided_early_from, in_time_from}
use Rattle.promise_told.proofs.Beginning.{beginning_timely}
use Rattle.promise_told.proofs.Arrivals.{arrives_timely}
use Rattle.promise_told.proofs.Taking.{entry_timely, entry_cut_timely}
use Rattle.promise_told.proofs.Looks.{looks_timely}
use Rattle.promise_told.proofs.CutLooks.{cut_timely}

-- each event
happens_timely : (ds : List Deposit) (e : Event) (w : World) → Holds (terms_of w) → Whole ds (node_of w) w.history.paid → Timely ds w → Timely ds (happens e w)
happens_timely ds tick w holds whole t = cond_both (may_tick w) (ticked w) w (Timely ds) (λ e. tick_timely ds w holds e t) (λ _. t)
happens_timely ds (entry e) w holds whole t = entry_timely ds w holds whole t e
happens_timely ds (looks told) w holds whole t = cond_both (is_true w told) (looked w told) w (Timely ds) (λ e. looks_timely ds w holds whole.many whole.known t told e) (λ _. t)
happens_timely ds (shows m) w holds whole t = neighbour_timely ds w holds t m
happens_timely ds (reveals i key) w holds whole t = reveals_timely ds w t i key
happens_timely ds (arrives m) w holds whole t = arrives_timely ds w holds t m
happens_timely ds restart w holds whole t = restart_timely ds w whole.many t
happens_timely ds (entry_cut e k) w holds whole t = entry_cut_timely ds w holds whole t e k
happens_timely ds (look_cut told k) w holds whole t = cond_both (is_true w told) (looked_in_part w told k) w (Timely ds) (λ e. cut_timely ds w holds whole.many whole.known t told e k) (λ _. t)

module _ (terms : Terms) (holds : Holds terms) (ds : List Deposit) where
  whole_by : (h : History) → By (start_of terms ds) h → Whole ds h.node h.paid
  whole_by h (list, e) = subst (λ (g : History). Whole ds g.node g.paid) (sym e) (run_whole terms ds list)

  holds_by : (h : History) → By (start_of terms ds) h → Holds h.node.terms
  holds_by h (list, e) = subst Holds (sym (ap (λ (g : History). g.node.terms) e ∙ after_terms list (start_of terms ds))) holds

  run_timely : (events : List Event) (w : World) → By (start_of terms ds) w.history → Timely ds w → Timely ds (run events w)
  run_timely [] w by t = t
  run_timely (e ∷ events) w by t =
      run_timely events (happens e w) (by_then (start_of terms ds) w.history (happens e w).history by (happens_by_lem e w))
      (happens_timely ds e w (holds_by w.history by) (whole_by w.history by) t)

pub always_timely : AlwaysTimely
always_timely terms holds ds events = run_timely terms holds ds events (beginning terms ds) ([], refl) (beginning_timely terms ds)

pub no_older : NoOlder
no_older = no_older_from always_timely

pub decided_early : DecidedEarly
decided_early = decided_early_from always_timely

pub in_time_lem : InTime
in_time_lem = in_time_from always_timely

pub main : Main
main = main_from passed_on_pays no_lock_twice no_older decided_early in_time_lem
