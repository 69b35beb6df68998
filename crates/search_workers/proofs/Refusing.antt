-- Steps that are refused, and a step that finishes, after offers.
use Rattle.std.proofs.Common.{◌≡◌, ℤ, List, [], ◌∷◌, ◌++◌, slice_set, slice_get, Option, Some, None, option_map, refl, sym, ◌∙◌, ap, subst}
use Rattle.std.specs.Prelude.{IsSome, Result, Ok, Err, OnOk, IfOk, IfErr}
use Rattle.std.specs.Result.{IsErrAnd}
use Rattle.dp_model.specs.Dp.{Dp}
use Rattle.dp_model.specs.Subproblem.{Subproblem}
use Rattle.fringe.specs.Tickets.{Ticketed}
use Rattle.board_laws.specs.Board.{BoardState, slot_content, slot_at}
use Rattle.board_laws.specs.Fates.{fates_on}
use Rattle.board_laws.specs.Finishing.{MayFinish}
use Rattle.board_laws.specs.Runs.Step.{Finish}
use Rattle.board_laws.specs.Steps.{finished_by, halted}
use Rattle.board_laws.specs.declared.cause.Cause.TheVariants.{Journal as of_journal}
use Rattle.board_laws.proofs.Running.{run-one, run-then}
use Rattle.kept_board.specs.declared.error.KeptError.{KeptError}
use Rattle.kept_board.specs.declared.error.KeptError.TheVariants.{Journal, OutOfMemory}
use Rattle.search_workers.specs.Offered.{IsOffered}
use Rattle.search_workers.specs.Stopped.{refused_by, IsRefused}
use Rattle.search_workers.specs.UnderWay.{HasFinished}
use Rattle.search_workers.proofs.Offers.{IsOffered-refl, IsOffered-trans}

-- what a refusal leaves, by its error
pub by_error : (b later : BoardState) (error : KeptError) → (error ≡ Journal → later ≡ halted b of_journal) → (error ≡ OutOfMemory → later ≡ b) → later ≡ refused_by error b
by_error b later Journal journal memory = journal refl
by_error b later OutOfMemory journal memory = memory refl

pub refused_here : (dp : Dp) (b later : BoardState) (error : KeptError) → later ≡ refused_by error b → IsRefused dp b error later
refused_here dp b later error is = record { last = b; offered = IsOffered-refl dp b; is = is }

pub refused_then : (dp : Dp) (a b c : BoardState) (error : KeptError) → IsOffered dp a b → IsRefused dp b error c → IsRefused dp a error c
refused_then dp a b c error first r = record { last = r.last; offered = IsOffered-trans dp a b r.last first r.offered; is = r.is }

by-slots : (error : KeptError) (b : BoardState) → (refused_by error b).slots ≡ b.slots
by-slots Journal b = refl
by-slots OutOfMemory b = refl

slot-full : (slot : Option Ticketed) (c : Subproblem) → option_map (λ (o : Ticketed). o.subproblem) slot ≡ Some c → IsSome slot
slot-full None c e = absurd (cc)
slot-full (Some o) c e = refl

-- what was out is out still
pub refused_full : (dp : Dp) (b later : BoardState) (c : Subproblem) (error : KeptError) → option_map (λ (o : Ticketed). o.subproblem) (slot_at b 0) ≡ Some c → IsRefused dp b error later → IsSome (slot_at later 0)
refused_full dp b later c error full r =
    let slots : later.slots ≡ b.slots = ap (λ l. l.slots) r.is ∙ (by-slots error r.last ∙ r.offered.slots) in
    slot-full (slot_at later 0) c (ap (λ s. option_map (λ (o : Ticketed). o.subproblem) (slot_content (slice_get s 0))) slots ∙ full)

-- where the disk failed a cause is held
pub refused_halted : (dp : Dp) (b later : BoardState) (error : KeptError) → IsRefused dp b error later → error ≡ Journal → IsSome later.cause
refused_halted dp b later error r is = subst (λ o. IsSome o) (sym (ap (λ l. l.cause) (r.is ∙ ap (λ e. refused_by e r.last) is))) refl

-- a Finish of worker 0
pub finished_one : (dp : Dp) (b later : BoardState) (threshold : Option ℤ) (cs : List Subproblem) → MayFinish dp b 0 threshold cs (fates_on dp b cs) → later ≡ finished_by dp b 0 cs → HasFinished dp b later
finished_one dp b later threshold cs may is = record {
  steps = Finish 0 threshold cs ∷ [];
  run = run-one dp b (Finish 0 threshold cs) later may is;
  slots = ap (λ l. l.slots) is;
  taken = ap (λ l. l.taken) is;
  cause = ap (λ l. l.cause) is;
}

pub finished_then : (dp : Dp) (a b c : BoardState) → IsOffered dp a b → HasFinished dp b c → HasFinished dp a c
finished_then dp a b c first f = record {
  steps = first.steps ++ f.steps;
  run = run-then dp a b c first.steps f.steps first.run f.run;
  slots = f.slots ∙ ap (λ s. slice_set s 0 None) first.slots;
  taken = f.taken ∙ first.taken;
  cause = f.cause ∙ first.cause;
}

pub on_ok : {T E P Q : Type 0} (r : Result T E) → (P → Q) → OnOk r P → OnOk r Q
on_ok (Ok x) f h = f h
on_ok (Err e) f h = tt

pub ok_then : {T E : Type 0} {P Q : T → Type 0} (r : Result T E) → ((x : T) → P x → Q x) → IfOk r P → IfOk r Q
ok_then (Ok x) f h = f x h
ok_then (Err e) f h = tt

pub err_then : {T E : Type 0} {P Q : E → Type 0} (r : Result T E) → ((e : E) → P e → Q e) → IsErrAnd r P → IfErr r Q
err_then (Ok x) f h = tt
err_then (Err e) f h = f e h
