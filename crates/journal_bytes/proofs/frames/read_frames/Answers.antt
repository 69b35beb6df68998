use Rattle.std.proofs.Common.{rules, ◌≡◌, ◌≢◌, ℕ, ◌+◌, ◌-◌, List, [], ◌∷◌, ◌++◌, length, map, get_or, take, drop, length-drop, true, false, refl, ◌∙◌, ap, arith}
use Rattle.std.proofs.lemmas.List.{take_all, get_or_past, map-append}
use Rattle.std.proofs.lemmas.Bool.Decides.{nat_tests}
use Rattle.journal_bytes.specs.Frames.{Frame, reading, reading_of}
use Rattle.journal_bytes.specs.Found.{frame}
use Rattle.journal_bytes.proofs.Found.{with_fronts, frame_is, stops, goes, reading_shut, reading_damaged, reading_none}
use Rattle.journal_bytes.proofs.frames.read_frames.Goals as goal
use Rattle.journal_bytes.proofs.frames.read_frames.Goals.{then-is_empty-via-then-is_empty, then-is_empty-via-else-is_empty+then-rest-ne-OPEN_GATE}

-- the rest of a file as the code cuts it
rest_is : (file : List ℕ) (at : ℕ) → take (length file - at) (drop at file) ≡ drop at file
rest_is file at = take_all (length file - at) (drop at file) (omega (arith, length-drop at file))

pub returns-then-is_empty-clause-read : goal.returns-then-is_empty-clause-read
returns-then-is_empty-clause-read c =
    let file = c.args.file.now in
    let l = c.loop-turn in
    let rest : List ℕ = take (length file - l.at) (drop l.at file) in
    let shut : get_or rest 0 0 ≢ 1 = elim c.then-is_empty.branch [
      | then-is_empty-via-then-is_empty w ↦ grind (arith, nat_tests, get_or_past rest 0 0)
      | then-is_empty-via-else-is_empty+then-rest-ne-OPEN_GATE w ↦ w.if-rest-ne-OPEN_GATE.true
    ] in
    stops (map frame l.frames.items) (length file - l._turn) l.digest l.at file rest true (reading_of file) (rest_is file l.at)
    (reading_shut (length file - l._turn) (length file - (l._turn + 1)) l.digest l.at rest (omega arith) shut) l.invariant.read

pub loop-turn-preserved : goal.loop-turn-preserved
loop-turn-preserved c =
    let file = c.args.file.now in
    let l = c.loop-turn in
    let rest : List ℕ = take (length file - l.at) (drop l.at file) in
    let sound = c.in-Some.sound in
    let copied : c.in_ok-to_vec.field-0.items ≡ take sound.0 (drop 6 rest) = search rules in
    let f : Frame = record { kind = get_or rest 1 0; body = c.in_ok-to_vec.field-0.items } in
    let pushed : map frame c.push.new.self.items ≡ map frame l.frames.items ++ f ∷ [] = ap (map frame) c.in_ok-push.ensures.items ∙ map-append frame l.frames.items _ in
    let facts = c.in-Some.ensures in
    let long : length rest ≡ length file - l.at = ap length (rest_is file l.at) ∙ length-drop l.at file in
    record {
      read = ap (λ fs. with_fronts fs (reading (length file - (l._turn + 1)) sound.1 (l.at + (38 + sound.0)) (drop (l.at + (38 + sound.0)) file))) pushed
          ∙ goes (map frame l.frames.items) (length file - l._turn) (length file - (l._turn + 1)) l.digest sound.1 l.at sound.0 file rest f (reading_of file) (rest_is file l.at) (omega arith) c.if-rest-ne-OPEN_GATE.false facts.sound facts.size facts.digest (frame_is rest _ sound.0 facts.size copied) l.invariant.read;
      within = omega (arith, facts.within, long);
    }

pub returns-in_default-clause-read : goal.returns-in_default-clause-read
returns-in_default-clause-read c =
    let file = c.args.file.now in
    let l = c.loop-turn in
    let rest : List ℕ = take (length file - l.at) (drop l.at file) in
    stops (map frame l.frames.items) (length file - l._turn) l.digest l.at file rest false (reading_of file) (rest_is file l.at)
    (reading_damaged (length file - l._turn) (length file - (l._turn + 1)) l.digest l.at rest (omega arith) c.if-rest-ne-OPEN_GATE.false c.in_default.ensures.damaged) l.invariant.read

pub returns-clause-read : goal.returns-clause-read
returns-clause-read c =
    let file = c.args.file.now in
    let l = c.loop-turn in
    stops (map frame l.frames.items) (length file - l._turn) l.digest l.at file (drop l.at file) false (reading_of file) refl
    (reading_none (length file - l._turn) l.digest l.at (drop l.at file) (omega arith)) l.invariant.read
