use Rattle.std.proofs.Common.{◌≡◌, ap, refl, length, length-append, arith, rules}
use Rattle.std.specs.Vec.{vec_len}
use Rattle.gcd_outer.specs.Texts.{bytes_of, texts_of}
use Rattle.gcd_outer.proofs.TextLemmas.{log_goes_on, lengths_of-append, length-texts_of, bytes_of-texts_of}
use Rattle.gcd_outer.proofs.text_log.TextLog.push.Goals as goal

pub returns-clause-ok : goal.returns-clause-ok
returns-clause-ok c =
    rw (c.push_reserved.ensures.items, c.in_ok-reserve.ensures.items, c.in_ok-extend_from_slice.ensures.items, c.as_bytes.ensures.value, ← c.self.view_is)
    (log_goes_on c.self.inside.notes.items c.self.inside.bytes.items _ _ _ _ c.self.invariant.whole refl)

pub returns-in_err-reserve-clause-within_room : goal.returns-in_err-reserve-clause-within_room
returns-in_err-reserve-clause-within_room c = λ texts bytes.
    let notes = c.self.inside.notes in
    let count : length (texts_of notes.items c.self.inside.bytes.items) ≡ length notes.items = length-texts_of notes.items c.self.inside.bytes.items in
    let len : vec_len notes ≡ length notes.items = search rules in
    let seen = ap (λ log. length log.texts) c.self.view_is in
    let room = ap (λ log. log.text_room) c.self.view_is in
    absurd (omega (arith, texts, count, len, seen, room, c.self.invariant.note_space, c.in_err-reserve.ensures.full))

pub returns-in_err-extend_from_slice-clause-within_room : goal.returns-in_err-extend_from_slice-clause-within_room
returns-in_err-extend_from_slice-clause-within_room c = λ texts bytes.
    let held = c.self.inside.bytes in
    let count : bytes_of (texts_of c.self.inside.notes.items held.items) ≡ length held.items = bytes_of-texts_of c.self.inside.notes.items held.items c.self.invariant.whole in
    let len : vec_len held ≡ length held.items = search rules in
    let seen = ap (λ log. bytes_of log.texts) c.self.view_is in
    let room = ap (λ log. log.byte_room) c.self.view_is in
    absurd (omega (arith, bytes, count, len, seen, room, c.self.invariant.byte_space, c.in_err-extend_from_slice.ensures.full, c.as_bytes.ensures.len))

pub invariant_of-self-2 : goal.invariant_of-self-2
invariant_of-self-2 c = record {
  whole = rw (c.push_reserved.ensures.items, c.in_ok-reserve.ensures.items, c.in_ok-extend_from_slice.ensures.items, c.as_bytes.ensures.value, lengths_of-append, length-append, c.self.invariant.whole) refl;
  note_space = omega (arith, c.self.invariant.note_space, c.push_reserved.ensures.capacity, c.reserve.ensures.capacity);
  byte_space = omega (arith, c.self.invariant.byte_space, c.extend_from_slice.ensures.capacity);
}
