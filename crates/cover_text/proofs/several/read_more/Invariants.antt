use Rattle.std.proofs.Common.{◌≡◌, ◌-◌, ◌≤◌, length, map}
use Rattle.std.specs.Prelude.{vec_len}
use Rattle.dp_model.specs.Lists.{Each}
use Rattle.cover_text.specs.Several.{texts_from}
use Rattle.cover_text.specs.Texts.{text_in}
use Rattle.cover_text.proofs.several.read_more.Given as goal

abbrev pub invariant-loop : goal.invariant-loop
invariant-loop l = record {
  reads : texts_from l.whole (length l.whole - l.counter) (map text_in l.texts.items) l.rest ≡ texts_from l.whole (length l.whole) (map text_in l.initial.texts.items) l.initial.rest;
  within : length l.rest ≤ length l.whole;
  inside : Each (λ t. vec_len t.instance ≤ length l.whole) l.texts.items;
}
