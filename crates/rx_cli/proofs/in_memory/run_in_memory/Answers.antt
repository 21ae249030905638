-- The causes of the two faults, over memory in which no call is made to fail.
use Rattle.std.proofs.Common.{Some, map, string_bytes}
use Rattle.rx_io.proofs.MemoryLemmas.{steady_files, full_sink}
use Rattle.rx_io.specs.MemoryFiles as kept
use Rattle.rx_io.specs.MemorySink as sink
use Rattle.rx_io.specs.Outside.{Rose}
use Rattle.rx_cli.specs.InMemory.{IsTooLong}
use Rattle.rx_cli.proofs.Complete.{memory_complete}
use Rattle.rx_cli.proofs.MemoryLemmas.{read_fault_absent, write_fault_long}
use Rattle.rx_cli.proofs.in_memory.run_in_memory.Goals as goal

pub returns-clause-read : goal.returns-clause-read
returns-clause-read c =
    read_fault_absent (kept.names_in c.args.files.now)
    (Rose (kept.faults_in c.args.files.now) (kept.faults_in c.run.new.files))
    (Rose (sink.faults_in c.args.out.now) (sink.faults_in c.run.new.out))
    (map string_bytes c.args.words.now) (Some (sink.put_in c.args.out.now))
    (Some (sink.put_in c.run.new.out)) c.run.result c.run.ensures.ends
    (steady_files c.args.files.now c.run.new.files c.requires.files_work c.run.ensures.reach_files)

pub returns-clause-write : goal.returns-clause-write
returns-clause-write c =
    write_fault_long (kept.names_in c.args.files.now)
    (Rose (kept.faults_in c.args.files.now) (kept.faults_in c.run.new.files))
    (Rose (sink.faults_in c.args.out.now) (sink.faults_in c.run.new.out))
    (map string_bytes c.args.words.now) (sink.put_in c.args.out.now) (sink.put_in c.run.new.out)
    c.run.result (sink.room_left c.args.out.now) c.run.ensures.ends
    (steady_files c.args.files.now c.run.new.files c.requires.files_work c.run.ensures.reach_files)
    (λ text. full_sink c.args.out.now c.run.new.out text c.requires.out_works.0
    c.requires.out_works.1 c.run.ensures.reach_out)

pub returns-clause-complete : goal.returns-clause-complete
returns-clause-complete c =
    memory_complete (kept.names_in c.args.files.now)
    (Rose (kept.faults_in c.args.files.now) (kept.faults_in c.run.new.files))
    (Rose (sink.faults_in c.args.out.now) (sink.faults_in c.run.new.out))
    (IsTooLong (kept.names_in c.args.files.now) (map string_bytes c.args.words.now)
    (sink.put_in c.args.out.now) (sink.put_in c.run.new.out) (sink.room_left c.args.out.now))
    (map string_bytes c.args.words.now) (Some (sink.put_in c.args.out.now))
    (Some (sink.put_in c.run.new.out)) c.run.result c.run.ensures.ends
    (steady_files c.args.files.now c.run.new.files c.requires.files_work
    c.run.ensures.reach_files)
    (write_fault_long (kept.names_in c.args.files.now)
    (Rose (kept.faults_in c.args.files.now) (kept.faults_in c.run.new.files))
    (Rose (sink.faults_in c.args.out.now) (sink.faults_in c.run.new.out))
    (map string_bytes c.args.words.now) (sink.put_in c.args.out.now) (sink.put_in c.run.new.out)
    c.run.result (sink.room_left c.args.out.now) c.run.ensures.ends
    (steady_files c.args.files.now c.run.new.files c.requires.files_work c.run.ensures.reach_files)
    (λ text. full_sink c.args.out.now c.run.new.out text c.requires.out_works.0
    c.requires.out_works.1 c.run.ensures.reach_out))
