-- With empty lists, files in memory find no fault, and a sink in memory finds one only where its
-- room ends.
use Rattle.std.proofs.Common.{◌≡◌, ◌<◌, ◌≤◌, ◌++◌, ◌∙◌, List, ℕ, [], Some, ap, length, take, arith, length-append, length-take}
use Rattle.rx_io.specs.declared.memory_files.MemoryFiles.{MemoryFiles}
use Rattle.rx_io.specs.declared.memory_sink.MemorySink.{MemorySink}
use Rattle.rx_io.specs.MemoryFiles as files
use Rattle.rx_io.specs.MemorySink as sink
use Rattle.rx_io.specs.Outside.{Rose, AppendsPrefix}

-- the count of faults of files without failing calls never rises
pub steady_files : (old new : MemoryFiles) → files.fail_in old ≡ [] → files.IsSameSetup old new →
    Rose (files.faults_in old) (files.faults_in new) → ⊥
steady_files old new none setup rose =
    let still : files.faults_in new ≡ 0 = new.never_fails (setup.fail ∙ none) in
    omega (arith, rose)

-- a sink without listed calls that found a fault had less room left than there were bytes to write
pub full_sink : (old new : MemorySink) (bytes : List ℕ) → sink.fail_in old ≡ [] → sink.zero_in old ≡
    [] → sink.IsSameSetup old new → Rose (sink.faults_in old) (sink.faults_in new)
    → AppendsPrefix (Some (sink.put_in old)) (Some (sink.put_in new)) bytes → sink.room_left old <
    length bytes
full_sink old new bytes no_fail no_zero setup rose (count, short, put) =
    let some : 0 < sink.faults_in new = omega (arith, rose) in
    let full : sink.room_in new ≤ length (sink.put_in new) =
    new.fails_when_full (setup.fail ∙ no_fail) (setup.zero ∙ no_zero) some in
    omega (
      arith,
      full,
      setup.room,
      ap length put,
      length-append (sink.put_in old) (take count bytes),
      length-take count bytes,
    )

-- bytes that were written whole had room
pub fits_sink : (old new : MemorySink) (bytes : List ℕ) → sink.IsSameSetup old new →
    sink.put_in new ≡ sink.put_in old ++ bytes → length bytes ≤ sink.room_left old
fits_sink old new bytes setup put =
    omega (arith, new.within, setup.room, ap length put, length-append (sink.put_in old) bytes)
