use Rattle.std.proofs.Common.{◌≡◌, [], ◌++◌, length, refl, arith, length-append}
use Rattle.std.specs.Prelude.{codes}
use Rattle.tq_field.specs.Digits.{digits}
use Rattle.tq_field.proofs.Numbers.{length-digits}
use Rattle.tq_store.proofs.PaddedLemmas.{put_spelt}
use Rattle.tq_store.proofs.page.spell_numbers.Goals as goal

pub returns : goal.returns
returns c = λ begins.
    let s = c.args.shape.now in
    let a = codes "TQSPACE1" in
    let b = a ++ digits 2 1 in
    let d = b ++ digits 2 s.queues in
    let e = d ++ digits 2 s.messages in
    let f = e ++ digits 2 s.transactions in
    let to_b : length b ≡ 10 = omega (arith, length-append a (digits 2 1), length-digits 2 1) in
    let to_d : length d ≡ 12 = omega (arith, length-append b (digits 2 s.queues), length-digits 2 s.queues, to_b) in
    let to_e : length e ≡ 14 = omega (arith, length-append d (digits 2 s.messages), length-digits 2 s.messages, to_d) in
    let to_f : length f ≡ 16 = omega (arith, length-append e (digits 2 s.transactions), length-digits 2 s.transactions, to_e) in
    let mark = c.put_behind.ensures [] refl begins in
    let version = put_spelt 8 a _ _ _ _ c.put_behind-2.ensures c.two_bytes.ensures refl mark in
    let queues = put_spelt 10 b _ _ _ _ c.put_behind-3.ensures c.two_bytes-2.ensures to_b version in
    let messages = put_spelt 12 d _ _ _ _ c.put_behind-4.ensures c.two_bytes-3.ensures to_d queues in
    let transactions = put_spelt 14 e _ _ _ _ c.put_behind-5.ensures c.two_bytes-4.ensures to_e messages in
    put_spelt 16 f _ _ _ _ c.put_behind-6.ensures c.eight_bytes.ensures to_f transactions
