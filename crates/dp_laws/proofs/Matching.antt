-- Gaps along chains, and what a prefix that dominates matches.
use Rattle.std.proofs.Common.{ℕ, ℤ, pos, ◌+ℤ◌, List, [], ◌∷◌, ◌++◌, length, sym, ◌∙◌, ap, subst, arith}
use Rattle.std.proofs.lemmas.Int.{ints}
use Rattle.dp_model.specs.Dp.{Dp}
use Rattle.dp_model.specs.Gaps.{IsStateOf, IsSoundGap}
use Rattle.dp_model.specs.Laws.{IsLawful, IsChained}
use Rattle.dp_model.specs.Prefixes.{IsContinuation, gain_of, state_of, value_of}
use Rattle.dp_model.proofs.Paths.{state_of-state, continued, value_of-split, completed, value_of-append}
use Rattle.dp_laws.specs.GapChains.{Link, IsChain, last_of, GapsAddUp, ChainsMatch}
use Rattle.dp_laws.specs.Dominance.{ContinuationsAreMatched, CompletionsAreMatched}

-- the last state of a chain is one of its layer
pub last-state : (dp : Dp) (k : ℕ) (a : List ℤ) (chain : List Link) → IsStateOf dp k a → IsChain dp k a chain → IsStateOf dp k (last_of a chain)
last-state dp k a [] here chain = here
last-state dp k a (s ∷ rest) here chain = last-state dp k s.row rest chain.0 chain.2

pub gaps-add_up : (dp : Dp) → IsLawful dp → IsChained dp → GapsAddUp dp
gaps-add_up dp laws chained k a [] here chain = record { gap = pos 0; is = laws.gaps.own k a here; within = omega (arith, ints) }
gaps-add_up dp laws chained k a (s ∷ rest) here chain =
    let more = gaps-add_up dp laws chained k s.row rest chain.0 chain.2 in
    let last = last-state dp k s.row rest chain.0 chain.2 in
    let sum = chained k a s.row _ s.gap more.gap here chain.0 last chain.1 more.is in
    let some = sum.within in let within = more.within in
    record { gap = sum.gap; is = sum.is; within = omega (arith, ints) }

-- a sound gap and another after it
pub sound-then : (dp : Dp) (k : ℕ) (a b s : List ℤ) (g h : ℤ) → IsSoundGap dp k a b g → IsSoundGap dp k b s h → IsSoundGap dp k a s (g +ℤ h)
sound-then dp k a b s g h first second c cont =
    let middle = second c cont in
    let top = first middle.by middle.continuation in
    let one = middle.enough in let two = top.enough in
    record { by = top.by; continuation = top.continuation; enough = omega (arith, ints) }

pub chains-match : (dp : Dp) → IsLawful dp → ChainsMatch dp
chains-match dp laws k a [] here chain = λ c cont. record { by = c; continuation = cont; enough = omega (arith, ints) }
chains-match dp laws k a (s ∷ rest) here chain =
    sound-then dp k a s.row _ s.gap _ (laws.gaps.sound k a s.row s.gap here chain.0 chain.1) (chains-match dp laws k s.row rest chain.0 chain.2)

pub continuations-matched : (dp : Dp) → IsLawful dp → ContinuationsAreMatched dp
continuations-matched dp laws a s worth prefix here h c cont =
    let match = laws.gaps.sound (length a) (state_of dp a) s h.gap (state_of-state dp laws.states a prefix) here h.is c cont in
    let whole = value_of-append dp a match.by in
    let within = h.within in let enough = match.enough in
    record { by = a ++ match.by; completion = completed dp a match.by prefix match.continuation; least = omega (arith, ints) }

pub completions-matched : (dp : Dp) → IsLawful dp → CompletionsAreMatched dp
completions-matched dp laws a p at_a at_p level h x comp =
    let here = subst (λ n. IsStateOf dp n (state_of dp p)) (sym level) (state_of-state dp laws.states p at_p) in
    let cont = subst (λ n. IsContinuation dp n (state_of dp p) comp.rest) (sym level) (continued dp p x comp) in
    let reached = continuations-matched dp laws a (state_of dp p) (value_of dp p) at_a here h comp.rest cont in
    let same = value_of-split dp p x comp ∙ ap (λ n. value_of dp p +ℤ gain_of dp n (state_of dp p) comp.rest) (sym level) in
    let least = reached.least in
    record { by = reached.by; completion = reached.completion; least = omega (arith, ints) }
