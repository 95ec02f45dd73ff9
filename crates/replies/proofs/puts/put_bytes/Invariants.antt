use Rattle.std.specs.Prelude.{length, take, flat_map, ◌≡◌, ◌+◌, ◌*◌, ◌≤◌}
use Rattle.replies.specs.Hex.{hex_of}
use Rattle.replies.specs.Replies.{Appended}
use Rattle.replies.proofs.puts.put_bytes.Given as goal

abbrev pub invariant-loop-i : goal.invariant-loop-i
invariant-loop-i l =
    record {
      within : l.i ≤ length l.bytes;
      room : length l.out ≡ length l.fn.out;
      so_far : Appended l.fn.out l.out l.at (l.at + 2 * l.i) (flat_map hex_of (take l.i l.bytes));
    }
