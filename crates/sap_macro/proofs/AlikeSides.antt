-- Threads, and configurations, that are equal up to names are so from both sides.
use Rattle.std.proofs.Common.{List, [], Option, sym, ap, subst}
use Rattle.sap_process.specs.Configuration.{Config}
use Rattle.sap_process.specs.Proc.{Proc}
use Rattle.sap_macro.specs.AlikeConfigurations.{AlikeThread, both_ended, both_run, AlikeThreads, no_thread, one_thread, HasGroundStore, AreAlikeConfigs}
use Rattle.sap_macro.proofs.Swapped.{other_side}

other_thread : (o u : Option Proc) → AlikeThread o u → AlikeThread u o
other_thread _ _ both_ended = both_ended
other_thread _ _ (both_run {p = p} {q = q} h) = both_run (other_side [] p q h)

pub other_threads : (os us : List (Option Proc)) → AlikeThreads os us → AlikeThreads us os
other_threads _ _ no_thread = no_thread
other_threads _ _ (one_thread {o = o} {u = u} {os = os} {us = us} h l) = one_thread (other_thread o u h) (other_threads os us l)

pub other_config : (c d : Config) → AreAlikeConfigs c d → AreAlikeConfigs d c
other_config c d h =
    record {
      threads = other_threads c.threads d.threads h.threads;
      else_one = ap (λ (z : Config). record z { threads = c.threads }) (sym h.else_one);
      ground = subst HasGroundStore h.else_one h.ground;
    }
