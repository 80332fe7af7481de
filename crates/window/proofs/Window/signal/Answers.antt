use Rattle.std.proofs.Common.{◌≡◌, ℕ, ◌*◌, List, ap, ◌∙◌, rules}
use Rattle.post.specs.Lanes.{Lane, send}
use Rattle.window.specs.declared.books.OfficeRecord.{OfficeRecord}
use Rattle.window.specs.declared.message.Message.TheVariants.{Signal}
use Rattle.window.specs.Parts.{byte_of}
use Rattle.window.specs.Sequences.{each}
use Rattle.window.specs.Turns.{signal}
use Rattle.window.proofs.Steps.{each_more, each_broke, each_done, passed}
use Rattle.window.proofs.Keeping.{lanes_did, sent_on}
use Rattle.window.proofs.Window.signal.Goals as goal

-- the byte sent is the signal of the office's step
signals : {byte : ℕ} {o o' : OfficeRecord} (i n : ℕ) (ls : List Lane) → byte ≡ byte_of (Signal o.step) → o ≡ o' → each n 0 (λ _. send (2 * i) byte) ls ≡ signal i o'.step n ls
signals i n ls e found = ap (λ b. each n 0 (λ _. send (2 * i) b) ls) (e ∙ ap (λ (o : OfficeRecord). byte_of (Signal o.step)) found)

pub loop-t-preserved : goal.loop-t-preserved
loop-t-preserved g c = record {
  kept = search rules;
  checked = c.loop-t.invariant.checked;
  left = each_more _ _ _ c.loop-t-test.true (sent_on _ _ c.lane_up.ensures c.send.ensures.did) c.in_ok-send.was ∙ c.loop-t.invariant.left;
}

pub returns-clause-did : goal.returns-clause-did
returns-clause-did g c =
    lanes_did c.loop-t.invariant.checked
    (each_done _ _ _ _ c.loop-t-test.false ∙ c.loop-t.invariant.left ∙ signals _ _ _ c.to_byte-byte.ensures c.record.ensures)

pub returns-in_err-send-clause-did : goal.returns-in_err-send-clause-did
returns-in_err-send-clause-did g c =
    passed c.from_residual.ensures.1
    (lanes_did c.loop-t.invariant.checked
    (each_broke _ _ _ c.loop-t-test.true (sent_on _ _ c.lane_up.ensures c.send.ensures.did) c.in_err-send.was ∙ c.loop-t.invariant.left ∙ signals _ _ _ c.to_byte-byte.ensures c.record.ensures))
