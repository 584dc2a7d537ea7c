-- A keeper over a database file goes to another thread: what it holds is plain data and a file, part by part.
use denote.RattleType.{RattleType}
use denote.Enum.Declared.{shape}
use denote.Enum.Enum.{Enum}
use denote.Param.Send.{IsSend, sendable, recorded_send, enum_send}
use denote.Param.SendFields.{declared_send, as_row_send}
use Rattle.std.proofs.Crossing.{crosses}
use Rattle.sqlite_schema.specs.contracts.schema.Table as table
use Rattle.sqlite_schema.specs.contracts.schema.Schema as schema
use Rattle.sqlite.specs.contracts.history.Mark as mark
use Rattle.sqlite.specs.contracts.history.History as history
use Rattle.sqlite_schema.specs.contracts.code.Op as op
use Rattle.sqlite_schema.specs.contracts.plan.Stage as stage
use Rattle.sqlite_schema.specs.contracts.plan.Groups as groups
use Rattle.sqlite_schema.specs.contracts.plan.Plan as plan
use Rattle.sqlite_schema.specs.contracts.program.Table as made
use Rattle.sqlite_schema.specs.contracts.program.Program as program
use Rattle.sqlite_schema.specs.contracts.code.Terms as terms
use Rattle.sqlite_schema.specs.contracts.command.Source as source
use Rattle.sqlite_schema.specs.contracts.command.Upsert as upsert
use Rattle.sqlite_schema.specs.contracts.command.Returning as returning
use Rattle.sqlite_schema.specs.contracts.command.Command as command
use Rattle.sqlite_resolve.specs.contracts.compiled.Compiled as compiled
use Rattle.sqlite.specs.contracts.cache.Entry as entry
use Rattle.sqlite.specs.contracts.run.reading.Reading as reading
use Rattle.sqlite_exec.specs.contracts.work.Workspace as work
use Rattle.sqlite_value.specs.contracts.row.Row as srow
use Rattle.sqlite.specs.contracts.clock.WallClock as clock
use Rattle.keeper_sqlite.specs.contracts.file_connection.FileConnection as held
use Rattle.keeper_sqlite.specs.contracts.sqlite_keeper.SqliteKeeper as keeper
use Rattle.sqlite.specs.contracts.connection.Connection as connection
use Rattle.sqlite_store.specs.contracts.store.FileStore as store
use Rattle.sqlite_pool.specs.contracts.pool.Pool as pool
use Rattle.sqlite_std_file.specs.contracts.host.Host as host
use Rattle.std.specs.contracts.fs.File as file
use Rattle.sqlite_disk.specs.contracts.modelled.Modelled as modelled

pub table_send : IsSend table.the_row
table_send = declared_send table.the_type (
  search (sendable, crosses) depth 60 fits 20000,
  (
    search (sendable, crosses) depth 60 fits 20000,
    (
      search (sendable, crosses) depth 60 fits 20000,
      (
        search (sendable, crosses) depth 60 fits 20000,
        (
          search (sendable, crosses) depth 60 fits 20000,
          (
            search (sendable, crosses) depth 60 fits 20000,
            (
              search (sendable, crosses) depth 60 fits 20000,
              (
                search (sendable, crosses) depth 60 fits 20000,
                (
                  search (sendable, crosses) depth 60 fits 20000,
                  (search (sendable, crosses) depth 60 fits 20000, (search (sendable, crosses) depth 60 fits 20000, (search (sendable, crosses) depth 60 fits 20000, tt))),
                ),
              ),
            ),
          ),
        ),
      ),
    ),
  ),
)

pub schema_send : IsSend schema.the_row
schema_send = search (table_send, sendable, crosses) depth 60 fits 20000

pub mark_send : IsSend mark.the_row
mark_send = search (schema_send, sendable, crosses) depth 60 fits 20000

pub history_send : IsSend history.the_row
history_send = search (schema_send, mark_send, sendable, crosses) depth 60 fits 20000

pub op_send : IsSend op.the_row
op_send = search (sendable, crosses) depth 60 fits 20000

pub stage_send : IsSend stage.the_row
stage_send = search (sendable, crosses) depth 60 fits 20000

pub groups_send : IsSend groups.the_row
groups_send = search (sendable, crosses) depth 60 fits 20000

pub plan_send : IsSend plan.the_row
plan_send = search (op_send, stage_send, groups_send, sendable, crosses) depth 60 fits 20000

pub made_send : IsSend made.the_row
made_send = search (plan_send, sendable, crosses) depth 60 fits 20000

program_inner : IsSend (program.the_field).row
program_inner = search (plan_send, made_send, sendable, crosses) depth 60 fits 20000

pub program_send : IsSend program.the_row
program_send = search (plan_send, made_send, sendable, crosses) depth 60 fits 20000

pub terms_send : IsSend terms.the_row
terms_send = search (op_send, sendable, crosses) depth 60 fits 20000

source_inner : IsSend (source.the_field).row
source_inner = enum_send (shape source.the_type) ((terms_send, (search (sendable, crosses) depth 60 fits 20000, tt)), ((program_inner, tt), tt))

pub source_send : IsSend source.the_row
source_send = let T = source.the_type in recorded_send (Enum (shape T)) T.D T.to T.to_one source_inner

pub upsert_send : IsSend upsert.the_row
upsert_send = search (program_send, sendable, crosses) depth 60 fits 20000

pub returning_send : IsSend returning.the_row
returning_send = declared_send returning.the_type (search (sendable, crosses) depth 60 fits 20000, (source_send, tt))

command_inner : IsSend (command.the_field).row
command_inner = enum_send (shape command.the_type) (
  (program_inner, (search (sendable, crosses) depth 60 fits 20000, tt)),
  (
    (search (sendable, crosses) depth 60 fits 20000, (source_inner, tt)),
    (
      (search (sendable, crosses) depth 60 fits 20000, (search (sendable, crosses) depth 60 fits 20000, (source_inner, (search (upsert_send, sendable, crosses) depth 60 fits 20000, tt)))),
      (
        (search (sendable, crosses) depth 60 fits 20000, (program_inner, tt)),
        (
          (search (sendable, crosses) depth 60 fits 20000, (program_inner, tt)),
          (
            tt,
            (
              (search (sendable, crosses) depth 60 fits 20000, tt),
              (
                tt,
                (
                  (search (sendable, crosses) depth 60 fits 20000, tt),
                  (
                    (search (sendable, crosses) depth 60 fits 20000, tt),
                    (
                      (search (sendable, crosses) depth 60 fits 20000, tt),
                      (
                        (search (sendable, crosses) depth 60 fits 20000, (search (sendable, crosses) depth 60 fits 20000, (search (sendable, crosses) depth 60 fits 20000, tt))),
                        (
                          tt,
                          (
                            tt,
                            (
                              tt,
                              (
                                (search (sendable, crosses) depth 60 fits 20000, tt),
                                ((search (sendable, crosses) depth 60 fits 20000, tt), ((search (sendable, crosses) depth 60 fits 20000, tt), (tt, tt))),
                              ),
                            ),
                          ),
                        ),
                      ),
                    ),
                  ),
                ),
              ),
            ),
          ),
        ),
      ),
    ),
  ),
)

pub command_send : IsSend command.the_row
command_send = let T = command.the_type in recorded_send (Enum (shape T)) T.D T.to T.to_one command_inner

pub compiled_send : IsSend compiled.the_row
compiled_send = declared_send compiled.the_type (
  command_send,
  (
    search (returning_send, sendable, crosses) depth 60 fits 20000,
    (
      search (sendable, crosses) depth 60 fits 20000,
      (
        search (sendable, crosses) depth 60 fits 20000,
        (search (sendable, crosses) depth 60 fits 20000, (search (sendable, crosses) depth 60 fits 20000, (search (sendable, crosses) depth 60 fits 20000, tt))),
      ),
    ),
  ),
)

pub entry_send : IsSend entry.the_row
entry_send = declared_send entry.the_type (search (sendable, crosses) depth 60 fits 20000, (compiled_send, (search (sendable, crosses) depth 60 fits 20000, tt)))

pub reading_send : IsSend reading.the_row
reading_send = search (sendable, crosses) depth 60 fits 20000

pub work_send : IsSend work.the_row
work_send = search (sendable, crosses) depth 60 fits 20000

pub srow_send : IsSend srow.the_row
srow_send = search (sendable, crosses) depth 60 fits 20000

pub clock_send : IsSend clock.the_row
clock_send = search (sendable, crosses) depth 60 fits 20000

pub pool_send : (T : RattleType) (g : _) → IsSend T → IsSend (pool.the_row T g)
pool_send T g s = search (sendable, crosses) depth 60 fits 20000

pub store_send : (T : RattleType) (g : _) → IsSend T → IsSend (store.the_row T g)
store_send T g s =
    declared_send (store.the_type T g) (
      pool_send T g s,
      (
        search (sendable, crosses) depth 60 fits 20000,
        (
          search (sendable, crosses) depth 60 fits 20000,
          (
            search (sendable, crosses) depth 60 fits 20000,
            (
              search (sendable, crosses) depth 60 fits 20000,
              (
                search (sendable, crosses) depth 60 fits 20000,
                (
                  search (sendable, crosses) depth 60 fits 20000,
                  (
                    search (sendable, crosses) depth 60 fits 20000,
                    (
                      search (sendable, crosses) depth 60 fits 20000,
                      (search (sendable, crosses) depth 60 fits 20000, (search (sendable, crosses) depth 60 fits 20000, (search (sendable, crosses) depth 60 fits 20000, tt))),
                    ),
                  ),
                ),
              ),
            ),
          ),
        ),
      ),
    )

pub connection_send : (T : RattleType) (g : _) → IsSend T → IsSend (connection.the_row T g)
connection_send T g s = search (declared_send, as_row_send, schema_send, history_send, entry_send, reading_send, work_send, srow_send, clock_send, sendable, crosses) depth 60 fits 20000

pub file_send : IsSend file.the_row
file_send = search (sendable, crosses) depth 60 fits 20000

pub host_send : IsSend host.the_row
host_send = search (declared_send, file_send, sendable, crosses) depth 60 fits 20000

pub modelled_send : (C T : RattleType) (g : _) (h : _) → IsSend C → IsSend T → IsSend (modelled.the_row C T g h)
modelled_send C T g h s t = search (declared_send, as_row_send, sendable, crosses) depth 60 fits 20000

pub held_send : IsSend held.the_row
held_send = search (declared_send, as_row_send, connection_send, store_send, modelled_send, host_send, sendable, crosses) depth 60 fits 20000

pub keeper_send : IsSend keeper.the_row
keeper_send = search (declared_send, as_row_send, held_send, sendable, crosses) depth 60 fits 20000
