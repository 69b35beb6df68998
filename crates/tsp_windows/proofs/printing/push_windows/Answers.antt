use Rattle.std.proofs.Common.{◌≡◌, ℕ, ◌+◌, ◌<◌, ◌≤◌, ◌++◌, List, length, drop, get_or, ap, sym, ◌∙◌, append_assoc}
use Rattle.std.proofs.lemmas.List.{drop_more, drop_all, append-nil}
use Rattle.tsp_windows.specs.Instance.{Window, no_window}
use Rattle.tsp_windows.specs.Texts.{printed_window, printed_windows}
use Rattle.tsp_windows.proofs.printing.push_windows.Goals as goal

-- the line of one window more
lined : (ws : List Window) (i : ℕ) (before after whole : List ℕ) → i < length ws → after ≡ before ++ printed_window (get_or ws i no_window)
    → before ++ printed_windows (drop i ws) ≡ whole → after ++ printed_windows (drop (i + 1) ws) ≡ whole
lined ws i before after whole h pushed so_far =
    let line : List ℕ = printed_window (get_or ws i no_window) in
    let cut : printed_windows (drop i ws) ≡ line ++ printed_windows (drop (i + 1) ws) = ap printed_windows (drop_more ws i no_window h) in
    rw pushed (append_assoc before line (printed_windows (drop (i + 1) ws)) ∙ rw cut at so_far)

all-lined : (ws : List Window) (i : ℕ) (out whole : List ℕ) → length ws ≤ i → out ++ printed_windows (drop i ws) ≡ whole → out ≡ whole
all-lined ws i out whole h so_far = sym (append-nil out) ∙ rw (drop_all i ws h) at so_far

pub push_window-requires-clause-opens : goal.push_window-requires-clause-opens
push_window-requires-clause-opens c = c.requires.opens c.windows.window-index

pub push_window-requires-clause-closes : goal.push_window-requires-clause-closes
push_window-requires-clause-closes c = c.requires.closes c.windows.window-index

pub windows-preserved : goal.windows-preserved
windows-preserved c = lined c.args.windows.now c.windows.window-index c.windows.out.items _ _ c.windows-test.true c.in_ok-push_window.ensures c.windows.invariant

pub returns : goal.returns
returns c = all-lined c.args.windows.now c.windows.window-index c.windows.out.items _ c.windows-test.false c.windows.invariant
